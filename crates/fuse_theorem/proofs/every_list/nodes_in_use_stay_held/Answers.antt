use Rattle.fuse_theorem.proofs.Lookups.ForgetsNeeds.{holds_now, one_node_a_file, settle_holds, take_met}
use Rattle.fuse_theorem.proofs.every_list.nodes_in_use_stay_held.Goals as goal

pub returns-clause-live : goal.returns-clause-live
returns-clause-live g = λ w p both releases live. holds_now w p both releases live

pub returns-clause-take : goal.returns-clause-take
returns-clause-take g = λ w p both releases choice k o after stepped. take_met w p both releases choice k o after stepped

pub returns-clause-settle : goal.returns-clause-settle
returns-clause-settle g = λ w p both releases k result copy there known.
    (one_node_a_file w p both releases, settle_holds w p both releases k result copy there known)
