-- Sessions worked out: what is a fault in them, and what must be none.
use Rattle.std.proofs.Common.{◌≡◌, ℕ, true, false, [], ◌∷◌, Some, None, refl}
use Rattle.name_sessions.specs.Names.{Name}
use Rattle.name_sessions.specs.NameActs.{NamesAsked, Unsure, Asks, Ends, Removes, Gives, Loses, Leaves}
use Rattle.name_sessions.specs.NameFrames.{has_fault}

-- a name of one byte
abbrev named : (parent byte : ℕ) → Name
named parent byte = (parent, byte ∷ [])

abbrev a : Name
a = named 1 97

abbrev b : Name
b = named 1 98

abbrev makes : Name → NamesAsked
makes name = record { removed = None; made = Some name; listed = None }

abbrev removes : Name → NamesAsked
removes name = record { removed = Some name; made = None; listed = None }

abbrev renames : Name → Name → NamesAsked
renames old new = record { removed = Some old; made = Some new; listed = None }

-- ---- faults

-- a name of which no answer spoke
never_given : has_fault [] (Removes a ∷ Asks 4 (removes a) ∷ []) ≡ true
never_given = refl

-- a LOOKUP that is answered ENOENT gives no file
not_found : has_fault [] (Asks 4 (makes a) ∷ Ends 4 ∷ Removes a ∷ []) ≡ true
not_found = refl

-- a name that was removed, and one that was renamed
removed_twice : has_fault [] (Gives a ∷ Removes a ∷ Asks 4 (removes a) ∷ Ends 4 ∷ Loses a ∷ Removes a ∷ []) ≡ true
removed_twice = refl

renamed_and_removed : has_fault [] (Gives a ∷ Asks 4 (renames a b) ∷ Ends 4 ∷ Loses a ∷ Gives b ∷ Removes a ∷ []) ≡ true
renamed_and_removed = refl

-- the same name in another directory
in_another_directory : has_fault [] (Gives a ∷ Removes (named 2 97) ∷ []) ≡ true
in_another_directory = refl

-- a name in a node that was forgotten, and given again for another directory
in_a_new_directory : has_fault [] (Gives (named 2 97) ∷ Leaves 2 ∷ Removes (named 2 97) ∷ []) ≡ true
in_a_new_directory = refl

-- ---- no faults

-- a LOOKUP is overtaken by a CREATE, which is answered first
overtaken : has_fault [] (Asks 4 (makes a) ∷ Asks 6 (makes a) ∷ Ends 6 ∷ Gives a ∷ Ends 4 ∷ Removes a ∷ []) ≡ false
overtaken = refl

-- a file that was found, and that a second LOOKUP, of another caller, does not find: the first may be about to remove it
found_and_missed : has_fault [] (Gives a ∷ Asks 4 (makes a) ∷ Ends 4 ∷ Removes a ∷ []) ≡ false
found_and_missed = refl

-- a removal that failed, and is tried once more
failed : has_fault [] (Gives a ∷ Removes a ∷ Asks 4 (removes a) ∷ Ends 4 ∷ Removes a ∷ []) ≡ false
failed = refl

-- two removals of a name, the second read before the first is answered
both_in_flight : has_fault [] (Gives a ∷ Removes a ∷ Asks 4 (removes a) ∷ Removes a ∷ Ends 4 ∷ Loses a ∷ []) ≡ false
both_in_flight = refl

-- a name that was removed, and made again
made_again : has_fault [] (Gives a ∷ Removes a ∷ Loses a ∷ Gives a ∷ Removes a ∷ []) ≡ false
made_again = refl

-- the new name of a RENAME
new_name : has_fault [] (Gives a ∷ Removes a ∷ Asks 4 (renames a b) ∷ Ends 4 ∷ Loses a ∷ Gives b ∷ Removes b ∷ []) ≡ false
new_name = refl

-- a file onto which its own name is renamed
onto_itself : has_fault [] (Gives a ∷ Loses a ∷ Gives a ∷ Removes a ∷ []) ≡ false
onto_itself = refl

-- a name beside that which was removed, and one in a directory beside that which was forgotten
another_name : has_fault [] (Gives a ∷ Gives b ∷ Loses a ∷ Removes b ∷ []) ≡ false
another_name = refl

beside_what_was_forgotten : has_fault [] (Gives a ∷ Gives (named 2 97) ∷ Leaves 2 ∷ Removes a ∷ []) ≡ false
beside_what_was_forgotten = refl

-- where several threads use the device
several_threads : has_fault [] (Unsure ∷ Removes a ∷ []) ≡ false
several_threads = refl
