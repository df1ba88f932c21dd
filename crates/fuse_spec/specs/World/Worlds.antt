-- The world: one kernel, one server and the three links between them.
use Rattle.std.specs.Prelude.{ℕ, false, cond, List, [], ◌∷◌, ◌++◌, Option, Some, None}
use Rattle.std.specs.List.{remove as without}
use Rattle.fuse_spec.specs.Values.Maps.{remove_name}
use Rattle.fuse_spec.specs.Calls.Paths.{Name}
use Rattle.fuse_spec.specs.Calls.Calls.{Call}
use Rattle.fuse_spec.specs.Calls.Vfs.{later}
use Rattle.fuse_spec.specs.Files.Trees.{a_directory}
use Rattle.fuse_spec.specs.declared.Phase.TheVariants.{Down}
use Rattle.fuse_spec.specs.declared.Counted.{Counted}
use Rattle.fuse_spec.specs.declared.Minor.{Minor}
use Rattle.fuse_spec.specs.declared.Minor.TheVariants.{M15, M31}
use Rattle.fuse_spec.specs.declared.WriteResult.{WriteResult}
use Rattle.fuse_spec.specs.declared.ReplyResult.{ReplyResult}
use Rattle.fuse_spec.specs.Kernel.Queues.{empty_queues}
use Rattle.fuse_spec.specs.Kernel.QueueCalls as queues
use Rattle.fuse_spec.specs.Kernel.Uniques.{interrupt_number}
use Rattle.fuse_spec.specs.Kernel.Messages.{Forget, RequestBody, forget, batch_forget, interrupt, Request, WireReply}
use Rattle.fuse_spec.specs.Kernel.Kernel.{Kernel, call_put, kernel_aborted, kernel_mounted, evicted}
use Rattle.fuse_spec.specs.Server.Server.{Server, Kept, Copy}
use Rattle.fuse_spec.specs.Server.Taking.{TakeResult}
use Rattle.fuse_spec.specs.Server.Performs.{PerformResult}
use Rattle.fuse_spec.specs.Server.Copies.{sent_again, settled, connection_lost, remounted}

-- A copy of a reply on its way, under its number.
pub record Sent : Type 0 where
  pub number : ℕ
  pub unique : ℕ
  pub wire : WireReply

-- The world: one kernel, one server, and the three links with the requests, the copies of replies and their results
-- that are on their way.
pub record World : Type 0 where
  pub kernel : Kernel
  pub server : Server
  pub requests : List Request
  pub replies : List Sent
  pub results : List ReplyResult

-- What each event does once nothing refuses it.

-- A mount with these validities: both sides begin anew, and the links are empty. (this project's rule)
abbrev pub after_mount : World → (found_ms missing_ms : ℕ) → Minor → World
after_mount w found_ms missing_ms minor =
    record {
      kernel = kernel_mounted w.kernel;
      server = remounted w.server (record { found_ms = found_ms; missing_ms = missing_ms }) minor;
      requests = [];
      replies = [];
      results = [];
    }

-- A system call begins. (Linux VFS)
abbrev pub after_call : World → Call → World
after_call w call = record w { kernel = call_put w.kernel call }

-- A request of the kernel goes onto its link. (fuse.rst)
abbrev pub requesting : World → ℕ → RequestBody → World
requesting w unique body = record w { requests = w.requests ++ record { unique = unique; body = body } ∷ [] }

-- The oldest INTERRUPT goes onto the request link, under the number of its original with the lowest bit set. (fuse.rst)
abbrev pub world_after_read_interrupt : World → (original : ℕ) → World
world_after_read_interrupt w original =
    requesting (record w { kernel = record w.kernel { queues = queues.after_read_interrupt w.kernel.queues } })
    (interrupt_number original) (interrupt original)

-- The request that forgets these: FORGET for one, else BATCH_FORGET. (linux/fuse.h, struct fuse_batch_forget_in)
abbrev pub forget_body : List Forget → RequestBody
forget_body [] = batch_forget []
forget_body (f ∷ []) = forget f
forget_body (f ∷ g ∷ fs) = batch_forget (f ∷ g ∷ fs)

-- This many forgets go onto the request link as one request, which allocates a number. (this project's rule)
abbrev pub world_after_read_forgets : World → ℕ → List Forget → World
world_after_read_forgets w n read =
    requesting (record w {
      kernel = record w.kernel {
        queues =
            queues.after_read_forgets w.kernel.queues n;
      };
    }) w.kernel.queues.next (forget_body read)

-- A pending request goes onto the request link, and is in processing. (fuse.rst)
abbrev pub world_after_read_pending : World → (k unique : ℕ) → RequestBody → World
world_after_read_pending w k unique body = requesting (record w {
  kernel =
      record w.kernel { queues = queues.after_read_pending w.kernel.queues k };
}) unique body

-- A copy goes onto the reply link, if there is one.
abbrev pub copy_put : World → (number unique : ℕ) → Option WireReply → World
copy_put w number unique None = w
copy_put w number unique (Some wire) = record w {
  replies = w.replies
      ++ record { number = number; unique = unique; wire = wire } ∷ [];
}

-- The server takes the request at this place of the request link, and a reply that it gives at once goes onto the reply
-- link.
abbrev pub after_take : World → ℕ → ℕ → TakeResult → World
after_take w k unique took = copy_put (record w {
  requests = without w.requests k;
  server = took.server;
}) w.server.next_copy unique took.reply

-- The server performs a held request, and the first copy of its reply goes onto the reply link, unless the mount is
-- aborted.
abbrev pub after_perform : World → ℕ → PerformResult → World
after_perform w unique did = copy_put (record w { server = did.server }) w.server.next_copy unique
    (cond w.server.aborted None (Some did.wire))

-- One more copy of a kept reply goes onto the reply link.
abbrev pub after_again : World → ℕ → Kept → World
after_again w unique kept = copy_put (record w { server = sent_again w.server unique kept }) w.server.next_copy unique
    (Some kept.wire)

-- The kernel takes the copy at this place of the reply link, and its result goes onto the result link.
abbrev pub after_write : World → ℕ → Sent → WriteResult × Kernel → World
after_write w k sent taken =
    record w {
      kernel = taken.1;
      replies = without w.replies k;
      results = w.results ++ record { number = sent.number; unique = sent.unique; result = taken.0 } ∷ [];
    }

-- The server settles a copy, if it still knows the copy.
abbrev pub server_settled : Server → ReplyResult → Option Copy → Server
server_settled s result None = s
server_settled s result (Some copy) = settled s result.number copy result.result

-- The server takes the result at this place of the result link.
abbrev pub after_settle : World → ℕ → ReplyResult → Option Copy → World
after_settle w k result copy = record w { results = without w.results k; server = server_settled w.server result copy }

-- The kernel's clock goes on.
abbrev pub after_tick : World → ℕ → World
after_tick w ms = record w { kernel = record w.kernel { vfs = later w.kernel.vfs ms } }

-- A cached name is dropped.
abbrev pub after_drop : World → ℕ → Name → World
after_drop w directory name =
    record w {
      kernel = record w.kernel {
        vfs = record w.kernel.vfs {
          names =
              remove_name w.kernel.vfs.names (directory, name);
        };
      };
    }

-- The kernel evicts a node, and its whole count is to be forgotten. (libfuse, low-level: forget)
abbrev pub after_evict : World → ℕ → Counted → World
after_evict w node counted = record w { kernel = evicted w.kernel node counted }

-- An abort empties the three links, and the server loses its connection. (this project's rule)
abbrev pub after_abort : World → World
after_abort w = record {
  kernel = kernel_aborted w.kernel;
  server = connection_lost w.server;
  requests = [];
  replies = [];
  results = [];
}

-- The kernel before the first mount.
abbrev pub first_kernel : Kernel
first_kernel =
    record {
      phase = Down;
      vfs = record { calls = []; names = []; opens = []; answers = []; next_call = 1; clock = 0; root = 1 };
      queues = empty_queues;
      nodes = [];
      closing = [];
      minor = M15;
      lists_files = false;
    }

-- The server before the first mount: its tree is the root alone.
abbrev pub first_server : Server
first_server =
    record {
      tree = record { files = (0, a_directory) ∷ []; names = []; next_inode = 1; next_cookie = 1 };
      nodes = record { rows = []; next_generation = 1 };
      handles = record { handles = []; next_fh = 1 };
      held = [];
      kept = [];
      copies = [];
      next_copy = 1;
      validity = record { found_ms = 0; missing_ms = 0 };
      minor = M31;
      aborted = false;
    }

-- Where everything begins: no mount yet, and the root alone.
abbrev pub first_world : World
first_world = record { kernel = first_kernel; server = first_server; requests = []; replies = []; results = [] }
