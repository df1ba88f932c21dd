use Rattle.protocol_law.proofs.Alike.{alike, refused}
use Rattle.protocol_law.proofs.spelled_is_read_alike.Goals as goal

pub returns-clause-alike : goal.returns-clause-alike
returns-clause-alike c = alike

pub returns-clause-refused : goal.returns-clause-refused
returns-clause-refused c = refused
