-- What becomes of a request that has no fault.
use Rattle.std.specs.Prelude.{ℕ, true, Option, Some, None}
use Rattle.fuse_spec.specs.declared.Taken.{Taken}
use Rattle.fuse_spec.specs.declared.Taken.TheVariants.{Held, Forgot, Marked, Ignored, Again}
use Rattle.fuse_spec.specs.Values.Maps.{get, put}
use Rattle.fuse_spec.specs.Values.Numbers.{eagain}
use Rattle.fuse_spec.specs.Files.Operations.{failed}
use Rattle.fuse_spec.specs.Kernel.Messages.{RequestBody, init, asks, release, forget, batch_forget, interrupt, WireReply}
use Rattle.fuse_spec.specs.Server.Server.{Server, HeldRequest, Kept, holding, forgetting, sending, forgets_of}

-- What the server does with a request: the word for it, the server after it, and what it replies at once.
pub record TakeResult : Type 0 where
  pub word : Taken
  pub server : Server
  pub reply : Option WireReply

-- An INTERRUPT marks an original that is held, is ignored while the original's reply is kept, and else is answered
-- EAGAIN. (fuse.rst)
abbrev pub interrupting : Server → (unique original : ℕ) → Option HeldRequest → Option Kept → TakeResult
interrupting s unique original (Some taken) kept =
    record {
      word = Marked;
      server = record s { held = put s.held original (record taken { marked = true }) };
      reply = None;
    }
interrupting s unique original None (Some kept) = record { word = Ignored; server = s; reply = None }
interrupting s unique original None None = record {
  word = Again;
  server = sending s unique (failed eagain) s.next_copy;
  reply = Some (failed eagain);
}

-- A request is taken: forgets and INTERRUPTs are done at once, and any other request is held until it is performed.
-- (this project's rule)
abbrev pub taking : Server → ℕ → RequestBody → TakeResult
taking s unique (init flags) = record { word = Held; server = holding s unique (init flags); reply = None }
taking s unique (asks operation) = record { word = Held; server = holding s unique (asks operation); reply = None }
taking s unique (release opened) = record { word = Held; server = holding s unique (release opened); reply = None }
taking s unique (forget f) = record { word = Forgot; server = forgetting s (forgets_of (forget f)); reply = None }
taking s unique (batch_forget fs) = record { word = Forgot; server = forgetting s fs; reply = None }
taking s unique (interrupt original) = interrupting s unique original (get s.held original) (get s.kept original)
