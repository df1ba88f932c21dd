-- What is true of the world and of the plain world stays so where these answers alone are left to collect.
use Rattle.std.proofs.Common.{refl, arith}
use Rattle.std.specs.Prelude.{T}
use Rattle.std.specs.Ordering.{nat_cmp}
use Rattle.std.specs.FinMap.{is_sorted}
use Rattle.fuse_spec.specs.Values.Maps.{Map}
use Rattle.fuse_spec.specs.Calls.Answers.{Answer}
use Rattle.fuse_spec.specs.World.Worlds.{World}
use Rattle.fuse_spec.specs.Reference.Plain.{Plain}
use Rattle.fuse_theorem.specs.AskedRequests.{RequestsAskedWhileLive}
use Rattle.fuse_theorem.specs.Copies.{CopiesSound}
use Rattle.fuse_theorem.specs.EveryList.{BothSound}
use Rattle.fuse_theorem.specs.Faultless.{Faultless}
use Rattle.fuse_theorem.specs.HeldKnown.{HeldKnownWhileLive}
use Rattle.fuse_theorem.specs.Links.{LinksSound}
use Rattle.fuse_theorem.specs.Lookups.{LookupsSound}
use Rattle.fuse_theorem.specs.Numbering.{IsNumberedWhileLive}
use Rattle.fuse_theorem.specs.ReleasesKnown.{ReleasesKnown}
use Rattle.fuse_theorem.specs.RepliesFit.{RepliesFitWhileLive}
use Rattle.fuse_theorem.specs.Unperformed.{RequestsSound}
use Rattle.fuse_theorem.specs.WorldSound.{WorldSound}
use Rattle.fuse_theorem.proofs.Refining.WithAnswers.{with_answers, plain_with_answers, answers_alike}
use Rattle.fuse_theorem.proofs.Requests.RequestsAsked.{moved_asked}
use Rattle.fuse_theorem.proofs.Requests.AskKept.{unmoved}

module _ (w : World) (answers : Map Answer) (sorted : T (is_sorted nat_cmp answers)) where
  numbers : IsNumberedWhileLive w → IsNumberedWhileLive (with_answers w answers)
  numbers old = record {
    live = λ live.
        let at = old.live live in
        record {
          queues = at.queues;
          calls_below = at.calls_below;
          one_request = at.one_request;
          sent_below = at.sent_below;
          replies_below = at.replies_below;
          held_below = at.held_below;
          kept_below = at.kept_below;
        };
    idle = old.idle;
  }

  copies : CopiesSound w → CopiesSound (with_answers w answers)
  copies old = record { sent = old.sent; results = old.results; once = old.once }

  lookups : LookupsSound w → LookupsSound (with_answers w answers)
  lookups old = record {
    server = old.server;
    numbers = numbers old.numbers;
    copies = copies old.copies;
    kept = old.kept;
    balanced = λ live. let at = old.balanced live in
        record { balance = at.balance; known = at.known; copies = at.copies; refused = at.refused };
    uncounted = old.uncounted;
  }

  requests : RequestsSound w → RequestsSound (with_answers w answers)
  requests old = record {
    once = old.once;
    numbers = old.numbers;
    unanswered = λ unique even stands. let none = old.unanswered unique even stands in
        record { copies = none.copies; kept = none.kept };
  }

  pub collected_world : WorldSound w → WorldSound (with_answers w answers)
  collected_world old = record {
    rooted = record { root = old.rooted.root; answers = sorted };
    queues = old.queues;
    lookups = lookups old.lookups;
    requests = requests old.requests;
  }

  asked : RequestsAskedWhileLive w → RequestsAskedWhileLive (with_answers w answers)
  asked old live = moved_asked w (old live) (with_answers w answers).kernel
      (unmoved w.kernel (with_answers w answers).kernel refl refl (omega (arith))) (omega (arith))
      (λ unique low none. none)

  links : LinksSound w → LinksSound (with_answers w answers)
  links old = record {
    held = old.held;
    serving = old.serving;
    agreed = λ live. let at = old.agreed live in record { copies = at.copies; kept = at.kept };
    idle = λ dead. let at = old.idle dead in record {
      requests = at.requests;
      replies = at.replies;
      results = at.results;
      kept = at.kept;
      server = at.server;
    };
  }

  held : HeldKnownWhileLive w → HeldKnownWhileLive (with_answers w answers)
  held old live unique t at = let known = old live unique t at in record { names = known.names; known = known.known }

  pub collected_both : (p : Plain) → BothSound w p → BothSound (with_answers w answers) (plain_with_answers p answers)
  collected_both p both =
      record {
        alike = answers_alike w answers p both.alike answers refl;
        world = collected_world both.world;
        asked = asked both.asked;
        links = links both.links;
        nodes = record {
          root = both.nodes.root;
          names = both.nodes.names;
          calls = both.nodes.calls;
          opens = both.nodes.opens;
        };
        held = held both.held;
        kept = both.kept;
        witness =
            let beside = both.witness in
            record {
              plain = plain_with_answers beside.plain answers;
              alike = answers_alike w answers beside.plain beside.alike answers refl;
              served = λ unique ask at.
                  let was = beside.served unique ask at in
                  record {
                    replied = was.replied;
                    not_interrupted = was.not_interrupted;
                    interrupted = λ live stage.
                        let of_it = was.interrupted live stage in
                        record {
                          even = of_it.even;
                          allocated = of_it.allocated;
                          marked = of_it.marked;
                          of_call = of_it.of_call;
                        };
                  };
            };
      }

  pub collected_releases : ReleasesKnown w → ReleasesKnown (with_answers w answers)
  collected_releases old =
      let files = old.files in
      record {
        files = record {
          calls_in_order = files.calls_in_order;
          closing_in_order = files.closing_in_order;
          calls_below = files.calls_below;
          opens = λ open_call o at. let was = files.opens open_call o at in
              record { begun = was.begun; not_waiting = was.not_waiting };
          users = λ call open_call operation at.
              let uses = files.users call open_call operation at in
              let opener = uses.opener in
              record {
                opener = record { begun = opener.begun; not_waiting = opener.not_waiting };
                of_open = uses.of_open;
                of_closed = uses.of_closed;
              };
          not_open = files.not_open;
          used = files.used;
        };
        closing = old.closing;
        requests = old.requests;
        held = old.held;
      }

  pub collected_faultless : Faultless w → Faultless (with_answers w answers)
  collected_faultless old = record {
    queued = old.queued;
    sent = old.sent;
    kept = old.kept;
    for_minor = λ live is. let at = old.for_minor live is in
        record { minor = at.minor; lists_files = at.lists_files; calls = at.calls; sent = at.sent };
  }

  pub collected_fits : RepliesFitWhileLive w → RepliesFitWhileLive (with_answers w answers)
  collected_fits old live = let at = old live in record {
    released = at.released;
    interrupted = at.interrupted;
    results = at.results;
  }
