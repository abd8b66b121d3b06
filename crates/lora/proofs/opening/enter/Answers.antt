-- The checks 1, 5 and 6 of head in this order.
use mathlib.Core.Path.{sym}
use borrow.Author.Tests.{lt-leb, le-leb}
use Rattle.std.specs.Prelude.{None, Some}
use Rattle.lora.specs.Head.{head_of}
use Rattle.lora.proofs.CountLaws.{sf-valid}
use Rattle.lora.proofs.HeadLaws.{over-front}
use Rattle.lora.proofs.opening.enter.Goals as goal

pub first_over-requires : goal.first_over-requires
first_over-requires c = (sf-valid _ (sym c.if-not-valid_sf.ensures)).1

pub returns-in-Some : goal.returns-in-Some
unfolding head_of
returns-in-Some c =
    let (over, below) = over-front _ _ 8 (Some c.in-Some.place) c.if-symbols-lt8.false c.in-Some.ensures in
    rw (← c.if-not-valid_sf.ensures, le-leb _ _ c.if-symbols-lt8.false, over, lt-leb _ _ below)

pub returns : goal.returns
unfolding head_of
returns c =
    let (low, high) = sf-valid _ (sym c.if-not-valid_sf.ensures) in
    let none = over-front _ _ 8 None c.if-symbols-lt8.false c.in_default.ensures in
    (low, high, c.if-symbols-lt8.false, rw (← c.if-not-valid_sf.ensures, le-leb _ _ c.if-symbols-lt8.false, none))
