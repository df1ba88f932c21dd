-- To perform a request changes the tree and the tables of nodes and open files alone.
use Rattle.std.proofs.Common.{◌≡◌, ℕ, Bool, true, false, cond, refl}
use Rattle.fuse_spec.specs.Kernel.Messages.{RequestBody, init, asks, release, forget, batch_forget, interrupt}
use Rattle.fuse_spec.specs.Files.Operations.{done}
use Rattle.fuse_spec.specs.Server.Nodes.{file_of, is_open, handle_back}
use Rattle.fuse_spec.specs.Server.Server.{Server, HeldRequest}
use Rattle.fuse_spec.specs.Server.Performs.{file_operation_of, is_open_for, is_still_held, doing, refusing, performing, performed}

-- What else there is of a server is the same.
pub record SameRest (s t : Server) : Type 0 where
  pub held : t.held ≡ s.held
  pub kept : t.kept ≡ s.kept
  pub copies : t.copies ≡ s.copies
  pub next_copy : t.next_copy ≡ s.next_copy
  pub validity : t.validity ≡ s.validity
  pub minor : t.minor ≡ s.minor
  pub aborted : t.aborted ≡ s.aborted

same_rest : (s : Server) → SameRest s s
same_rest s = record {
  held = refl;
  kept = refl;
  copies = refl;
  next_copy = refl;
  validity = refl;
  minor = refl;
  aborted = refl;
}

performing_rest : (choice : ℕ → ℕ) (s : Server) (body : RequestBody) → SameRest s (performing choice s body).server
performing_rest choice s (init flags) = same_rest s
performing_rest choice s (asks operation) = by (is_open_for s operation)
  where
    by : (b : Bool) → SameRest s (cond b (doing choice s (file_operation_of s.nodes operation)) (refusing s 9)).server
    by true = record {
      held = refl;
      kept = refl;
      copies = refl;
      next_copy = refl;
      validity = refl;
      minor = refl;
      aborted = refl;
    }
    by false = same_rest s
performing_rest choice s (release o) = by (is_open s.handles o.fh (file_of s.nodes o.nodeid))
  where
    by : (b : Bool) → SameRest s (cond b (record {
      server = record s { handles = handle_back s.handles o.fh };
      wire = done;
    }) (refusing s 9)).server
    by true = record {
      held = refl;
      kept = refl;
      copies = refl;
      next_copy = refl;
      validity = refl;
      minor = refl;
      aborted = refl;
    }
    by false = same_rest s
performing_rest choice s (forget f) = same_rest s
performing_rest choice s (batch_forget fs) = same_rest s
performing_rest choice s (interrupt original) = same_rest s

pub performed_rest : (choice : ℕ → ℕ) (s : Server) (t : HeldRequest) → SameRest s (performed choice s t).server
performed_rest choice s t = by_mark t.marked
  where
    by_held : (b : Bool) → SameRest s (cond b (performing choice s t.body) (refusing s 5)).server
    by_held true = performing_rest choice s t.body
    by_held false = same_rest s

    by_mark : (b : Bool) → SameRest s (cond b (refusing s 4)
        (cond (is_still_held s.nodes t.generations) (performing choice s t.body) (refusing s 5))).server
    by_mark true = same_rest s
    by_mark false = by_held (is_still_held s.nodes t.generations)
