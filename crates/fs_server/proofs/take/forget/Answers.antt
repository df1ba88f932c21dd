use Rattle.std.proofs.Common.{rules, ◌≡◌, sym, subst}
use Rattle.fuse_spec.specs.Server.Nodes.{NodeTable}
use Rattle.fuse_spec.specs.Server.Server.{all_taken_back}
use Rattle.fk_wire.specs.Requests.{request_content}
use Rattle.fs_server.specs.Effects.{DiscardsUnheld}
use Rattle.fs_server.specs.Taking.{forgets_in}
use Rattle.fs_server.proofs.DiscardsUnheld.{discards_none}
use Rattle.fs_server.proofs.take.forget.Goals as goal

pub returns-in_default : goal.returns-in_default
returns-in_default g c =
    let files = c.args.files.now in
    let none : all_taken_back files.nodes (forgets_in c.args.nodeid (request_content c.args.body.now)) ≡ files.nodes =
    search rules in
    subst (λ (n : NodeTable). DiscardsUnheld files n files.handles files) (sym none) (discards_none files c.requires.named)
