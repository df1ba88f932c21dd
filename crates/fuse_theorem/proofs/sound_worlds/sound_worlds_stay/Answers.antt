use Rattle.fuse_theorem.proofs.WholeLists.SoundWorlds.{first_is_sound, sound_next, handed_out_sound, collected_is_sound}
use Rattle.fuse_theorem.proofs.sound_worlds.sound_worlds_stay.Goals as goal

pub returns-clause-first : goal.returns-clause-first
returns-clause-first g = first_is_sound

pub returns-clause-next : goal.returns-clause-next
returns-clause-next g = λ w here e o after happens. sound_next w here e o after happens

pub returns-clause-handing_out : goal.returns-clause-handing_out
returns-clause-handing_out g = λ w call here. handed_out_sound w call here

pub returns-clause-collecting : goal.returns-clause-collecting
returns-clause-collecting g = λ w here. collected_is_sound w here
