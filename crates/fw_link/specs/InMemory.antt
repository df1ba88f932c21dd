-- What a link in memory carries.
use Rattle.std.specs.Prelude.{◌≡◌, List, [], ◌++◌, ℕ}
use Rattle.std.proofs.Common.{sym, ap, ◌∙◌, append_assoc, append-nil}
use Rattle.std.proofs.lemmas.List.{append_cancel_left}
use Rattle.fw_link.specs.declared.side.Side.{Side}
use Rattle.fw_link.specs.declared.side.Side.TheVariants.{Kernel, Server}
use Rattle.fw_link.specs.declared.memory.MemoryLink.{MemoryLink}
use Rattle.fw_link.specs.Traffic.{Traffic, no_traffic, in_turn, IsInOrder, IsWhole}

module _ {A : Type 0} where
  -- the bytes on their way to a side
  abbrev pub way_to : MemoryLink A → Side → List ℕ
  way_to link Kernel = link.to_kernel
  way_to link Server = link.to_server

  -- what was on its way and what was put is what was got and what is on its way now
  pub record Moved (old new : MemoryLink A) (h : Traffic) : Type 0 where
    pub to_kernel : old.to_kernel ++ h.server_put ≡ h.kernel_got ++ new.to_kernel
    pub to_server : old.to_server ++ h.kernel_put ≡ h.server_got ++ new.to_server

  -- nothing is on its way
  pub record IsEmptyLink (link : MemoryLink A) : Type 0 where
    pub to_kernel : link.to_kernel ≡ []
    pub to_server : link.to_server ≡ []

-- two stretches of one way
along : (a b c p q g k : List ℕ) → a ++ p ≡ g ++ b → b ++ q ≡ k ++ c → a ++ (p ++ q) ≡ (g ++ k) ++ c
along a b c p q g k first second =
    sym (append_assoc a p q) ∙ ap (λ (l : List ℕ). l ++ q) first ∙ append_assoc g b q ∙ ap
    (λ (l : List ℕ). g ++ l) second ∙ sym (append_assoc g k c)

pub nothing_moved : {A : Type 0} (link : MemoryLink A) → Moved link link no_traffic
nothing_moved link = record { to_kernel = append-nil link.to_kernel; to_server = append-nil link.to_server }

pub moved_in_turn : {A : Type 0} (first mid last : MemoryLink A) (h k : Traffic) → Moved first mid h → Moved mid last k
    → Moved first last (in_turn h k)
moved_in_turn first mid last h k one two =
    record {
      to_kernel = along first.to_kernel mid.to_kernel last.to_kernel
          h.server_put k.server_put h.kernel_got k.kernel_got one.to_kernel two.to_kernel;
      to_server = along first.to_server mid.to_server last.to_server
          h.kernel_put k.kernel_put h.server_got k.server_got one.to_server two.to_server;
    }

pub moved_in_order : {A : Type 0} (first last : MemoryLink A) (h : Traffic) → IsEmptyLink first → Moved first last h
    → IsInOrder h
moved_in_order first last h idle moved =
    record {
      to_kernel = (last.to_kernel, sym (ap (λ (l : List ℕ). l ++ h.server_put) idle.to_kernel) ∙ moved.to_kernel);
      to_server = (last.to_server, sym (ap (λ (l : List ℕ). l ++ h.kernel_put) idle.to_server) ∙ moved.to_server);
    }

-- what is left where all was got is nothing
none_left : (a b p g : List ℕ) → a ≡ [] → a ++ p ≡ g ++ b → g ≡ p → b ≡ []
none_left a b p g empty moved whole =
    sym (append_cancel_left g [] b (append-nil g ∙ whole ∙ sym (ap (λ (l : List ℕ). l ++ p) empty) ∙ moved))

pub stays_idle : {A : Type 0} (first last : MemoryLink A) (h : Traffic) → IsEmptyLink first → Moved first last h → IsWhole h
    → IsEmptyLink last
stays_idle first last h idle moved whole =
    record {
      to_kernel = none_left first.to_kernel last.to_kernel
          h.server_put h.kernel_got idle.to_kernel moved.to_kernel whole.to_kernel;
      to_server = none_left first.to_server last.to_server
          h.kernel_put h.server_got idle.to_server moved.to_server whole.to_server;
    }
