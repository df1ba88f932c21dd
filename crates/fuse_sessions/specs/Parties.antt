-- Whose fault each is. A warning is nobody's.
use Rattle.fuse_sessions.specs.declared.fault.Fault.{Fault}
use Rattle.fuse_sessions.specs.declared.fault.Fault.TheVariants as fault
use Rattle.fuse_sessions.specs.declared.fault.Party.{Party}
use Rattle.fuse_sessions.specs.declared.fault.Party.TheVariants.{Kernel, Server, Device, Nobody}

abbrev pub party_of : Fault → Party
party_of fault.MalformedRequest = Kernel
party_of fault.RequestBeforeInit = Kernel
party_of fault.InitNotFirst = Kernel
party_of fault.OddNumber = Kernel
party_of fault.NumberUsedTwice = Kernel
party_of fault.NumberOutOfOrder = Kernel
party_of fault.ResendOfNothing = Kernel
party_of fault.InterruptOfNothing = Kernel
party_of fault.InterruptUnderAnotherNumber = Kernel
party_of fault.InterruptTooOften = Kernel
party_of fault.NodeNotCounted = Kernel
party_of fault.ForgetOfTheRoot = Kernel
party_of fault.ForgetOfNoLookup = Kernel
party_of fault.ForgetOfMoreThanIsCounted = Kernel
party_of fault.ForgetOfANodeInUse = Kernel
party_of fault.HandleNotOpen = Kernel
party_of fault.ReleaseOfWhatIsNotOpen = Kernel
party_of fault.ReleaseBesideAUse = Kernel
party_of fault.WriteTooLarge = Kernel
party_of fault.NameThatIsMissing = Kernel
party_of fault.ReadAfterTheEnd = Device
party_of fault.AcceptedAfterTheEnd = Device
party_of fault.AcceptedReplyToNothing = Device
party_of fault.AcceptedWrongBody = Device
party_of fault.RefusedReply = Device
party_of fault.NodeGivenAgain = Nobody
party_of fault.HandleGivenAgain = Nobody
party_of fault.NoSuchNode = Nobody
party_of fault.InterruptedByNobody = Nobody
party_of fault.AgainTooOften = Nobody
party_of fault.OffsetGivenTwice = Nobody
party_of fault.ListingWithoutEnd = Nobody
party_of _ = Server
