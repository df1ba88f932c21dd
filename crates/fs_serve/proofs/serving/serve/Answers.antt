use Rattle.fs_serve.proofs.LookupCounts.{counts_follow}
use Rattle.fs_serve.proofs.PairsOnce.{pairs_once}
use Rattle.fs_serve.proofs.serving.serve.Goals as goal

pub returns-clause-served : goal.returns-clause-served
returns-clause-served g c =
    let (log, logs, both, ends) = c.serve_frames.ensures in (
      log,
      logs,
      record {
        serves = both.0;
        to_the_end = both.1;
        counts = λ mounted before mid serves_before. counts_follow c.args.server.now before mid serves_before mounted;
        pairs = pairs_once c.args.server.now;
      },
      ends,
    )
