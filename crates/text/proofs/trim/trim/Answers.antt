use Rattle.std.proofs.Common.{refl}
use Rattle.text.specs.Bytes.{white}
use Rattle.text.proofs.Strips.{strips}
use Rattle.text.proofs.trim.trim.Goals as goal

pub returns-clause-strips : goal.returns-clause-strips
returns-clause-strips c = rw c.strip.ensures (strips white refl _)
