use Rattle.fs_server.proofs.Sound.{gone_none}
use Rattle.fs_server.proofs.server.ServerOf.drop_held.Goals as goal

-- What held a request under the unique kept no reply of it, and now there is neither.
pub invariant_of-self : goal.invariant_of-self
invariant_of-self g c =
    let s = c.self.inside in
    let old = c.self.invariant in
    rw c.remove-dropped.ensures.entries (record {
      requests = record {
        apart = λ n there. old.requests.apart n (λ none. there (gone_none s.held.entries c.args.unique n none));
        copies_below = old.requests.copies_below;
      };
      below = old.below;
      used = old.used;
      named = old.named;
      numbers = old.numbers;
      found_day = old.found_day;
      missing_day = old.missing_day;
    })
