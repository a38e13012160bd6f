-- The line ends within its buffer.
use Rattle.std.proofs.Common.{◌≤◌, length, sym, rules}
use lib.Seq.{length-take-le}
use Rattle.recheck_line.proofs.Text.{line_fits}
use Rattle.recheck_line.proofs.recheck.Goals as goal

pub slice_bounds-line-end : goal.slice_bounds-line-end
slice_bounds-line-end g c = line_fits c.read_input-read.result c.read_input-read.new.buf c.recheck_line-k.ensures (search rules)

pub slice_bounds-write_all-end : goal.slice_bounds-write_all-end
slice_bounds-write_all-end g c =
    let k = c.recheck_line-k in
    let fits : k.result ≤ length k.new.out = line_fits c.read_input-read.result c.read_input-read.new.buf k.ensures (search rules) in
    sym (length-take-le k.result k.new.out fits)
