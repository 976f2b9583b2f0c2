use Rattle.std.proofs.Common.{rules}
use Rattle.std.specs.Fn.{FnOnceReturnsAt}
use Rattle.sheet.proofs.reader.Reader.read_line.Goals as goal

pub returns : goal.returns
returns g c = λ f reads.
    let k : FnOnceReturnsAt g.F.FnOnce c.args.read c.in_ok-line.line c.read.result = search rules in
    let e = reads c.in_ok-line.line c.read.result k in
    search rules
