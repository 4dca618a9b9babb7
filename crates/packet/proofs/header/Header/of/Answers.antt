-- each item is read from the octets that hold it.
use mathlib.Core.Path.{◌∙◌, ap}
use Prim.Native.Nat.{ℕ, ◌%◌}
use Rattle.packet.proofs.HeaderLaws.{header_is}
use Rattle.packet.proofs.header.Header.of.Goals as goal

pub returns : goal.returns
returns c = let a = c in
    let v = a in
    let o = v in
    header_is o.args.packet.now _ _ _ _ _ _
    v.version.ensures
    o.octet-first.ensures.0
    (a.application.ensures ∙ ap (λ (n : ℕ). n % 2048) a.number.ensures.0)
    o.octet-third.ensures.0
    o.octet-third.ensures.1
    c.number-2.ensures.0
    c.total.ensures.0
