-- Why the server refuses to perform a request or to send a reply again, and what it finds where it does not. A counter
-- at its end and out of memory are judged after all of these. (this project's rule)
use Rattle.std.specs.Prelude.{ℕ, Bool, ◌||◌, not, Option, Some, None, Result, Err, nat_lt}
use Rattle.fuse_spec.specs.Values.Maps.{get}
use Rattle.fuse_spec.specs.Values.Numbers.{counter_end}
use Rattle.fuse_spec.specs.declared.Refusal.{Refusal}
use Rattle.fuse_spec.specs.declared.Refusal.TheVariants.{NoCopy, Exhausted}
use Rattle.fuse_spec.specs.Kernel.Refusals.{unless, found}
use Rattle.fuse_spec.specs.Server.Nodes.{count_overflows}
use Rattle.fuse_spec.specs.Server.Server.{Server, HeldRequest, Kept}
use Rattle.fuse_spec.specs.Server.Performs.{files_given}
use Rattle.fuse_spec.specs.Server.Copies.{is_current, files_named}

-- Whether a counter of the server would have given a number past its end.
abbrev pub is_server_past_end : Server → Bool
is_server_past_end s =
    nat_lt counter_end s.tree.next_inode || nat_lt counter_end s.tree.next_cookie
    || nat_lt counter_end s.nodes.next_generation || nat_lt counter_end s.handles.next_fh
    || nat_lt counter_end s.next_copy

module _ {A : Type 0} (s : Server) where
  -- The held request that is to be performed.
  abbrev pub held_found : Option HeldRequest → (HeldRequest → Result A Refusal) → Result A Refusal
  held_found there next = found there
      (λ (held : HeldRequest). unless (count_overflows s.nodes (files_given s held)) Exhausted (next held))

  abbrev pub to_perform : ℕ → (HeldRequest → Result A Refusal) → Result A Refusal
  to_perform unique next = held_found (get s.held unique) next

  -- The kept reply of which one more copy goes out: none where no reply is kept, or what it names is gone.
  abbrev pub kept_found : Option Kept → (Kept → Result A Refusal) → Result A Refusal
  kept_found None next = Err NoCopy
  kept_found (Some kept) next = unless (not (is_current s kept.wire)) NoCopy
      (unless (count_overflows s.nodes (files_named s kept.wire)) Exhausted (next kept))

  abbrev pub to_send_again : ℕ → (Kept → Result A Refusal) → Result A Refusal
  to_send_again unique next = kept_found (get s.kept unique) next
