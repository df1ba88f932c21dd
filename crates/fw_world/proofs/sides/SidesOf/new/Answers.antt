use Rattle.std.proofs.Common.{sym, subst}
use Rattle.fuse_spec.specs.World.Worlds.{World, first_world}
use Rattle.fuse_spec.specs.Reference.Plain.{first_plain}
use Rattle.fuse_spec.specs.Claim.Alike.{Alike}
use Rattle.fuse_theorem.proofs.Refining.InitialWorld.{first_alike}
use Rattle.fuse_theorem.specs.SoundWorlds.{IsSoundWorld}
use Rattle.fuse_theorem.proofs.WholeLists.SoundWorlds.{first_is_sound}
use Rattle.fw_world.proofs.WorldParts.{is_made}
use Rattle.fw_world.proofs.sides.SidesOf.new.Goals as goal

pub invariant_of-result : goal.invariant_of-result
invariant_of-result g c =
    let made = is_made first_world c.new-2.result c.in-Ok.server c.new-3.result.items c.new-4.result.items c.new-5.result.items c.new-2.ensures c.in-Ok.ensures c.new-3.ensures.items c.new-4.ensures.items c.new-5.ensures.items in
    subst IsSoundWorld (sym made) first_is_sound

pub returns-clause-refines : goal.returns-clause-refines
returns-clause-refines g c =
    let made = is_made first_world c.new-2.result c.in-Ok.server c.new-3.result.items c.new-4.result.items c.new-5.result.items c.new-2.ensures c.in-Ok.ensures c.new-3.ensures.items c.new-4.ensures.items c.new-5.ensures.items in
    subst (λ (w : World). Alike w first_plain) (sym made) first_alike
