use Rattle.std.proofs.Common.{◌≡◌, ◌+◌, [], length, false}
use Rattle.fw_link.specs.Traffic.{sent}
use Rattle.fw_link.proofs.carrier.get_bytes.Given as goal

-- what the cutter holds was got, this many bytes are left, and nothing failed
abbrev pub invariant-loop-left : goal.invariant-loop-left
invariant-loop-left g l =
    g.L.Link.carries l.initial.link l.link (sent l.from [] l.cutter.bytes)
    × (g.L.Link.failed l.link ≡ g.L.Link.failed l.initial.link)
    × (length l.cutter.bytes + l.left ≡ l.len)
    × (l.cutter.is_damaged ≡ false)

abbrev pub decreases-loop-left : goal.decreases-loop-left
decreases-loop-left g l = l.left
