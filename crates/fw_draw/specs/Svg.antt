-- The SVG that is printed.
use Rattle.std.specs.Prelude.{ℕ, List, [], ◌∷◌, ◌++◌, ◌==◌, ◌&&◌, nat_le, if◌then◌else◌, codes, flat_map}

-- a byte of a text: `&`, `<`, `>` and `"` are escaped, and `?` stands for one outside 32 to 126
abbrev pub escaped_byte : ℕ → List ℕ
escaped_byte byte =
    if byte == 38 then codes "&amp;" else if byte == 60 then codes "&lt;" else if byte == 62 then codes "&gt;"
    else if byte == 34 then codes "&quot;" else if nat_le 32 byte && nat_le byte 126 then byte ∷ [] else codes "?"

-- a text
abbrev pub escaped : List ℕ → List ℕ
escaped text = flat_map escaped_byte text

-- an SVG element, by what stands between its name space and its end
abbrev pub svg_text : List ℕ → List ℕ
svg_text inner = codes "<svg xmlns=\"http://www.w3.org/2000/svg\" " ++ inner ++ codes "</svg>\n"
