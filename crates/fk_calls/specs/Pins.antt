-- What pins a node.
use Rattle.std.specs.Prelude.{ℕ, Bool, ◌||◌, nat_eq}
use Rattle.std.specs.List.{list_any}
use Rattle.fuse_spec.specs.declared.Opened.{Opened}
use Rattle.fuse_spec.specs.Kernel.Kernel.{nodes_of_state}
use Rattle.fuse_spec.specs.Values.Maps.{Map, values}
use Rattle.fuse_spec.specs.Calls.Vfs.{CallState}

-- Whether an unanswered call or an open file names the node, or an unanswered RELEASE does.
abbrev pub pins : Map (CallState Opened) → Map Opened → Bool → ℕ → Bool
pins calls opens is_releasing node =
    list_any (λ state. list_any (nat_eq node) (nodes_of_state state)) (values calls)
    || (list_any (λ (opened : Opened). nat_eq opened.nodeid node) (values opens) || is_releasing)
