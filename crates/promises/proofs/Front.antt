-- Where the reader knows of a frame, by its header or because it was agreed, the checks of the frame decide.
-- Assumes nothing.
use mathlib.Core.Path.{◌≡◌, sym, ap, ◌∙◌}
use mathlib.Core.Bool.{Bool}
use mathlib.Core.List.{List}
use Prim.Native.Nat.{ℕ}
use Rattle.layout.specs.Layout.{symbols_of}
use Rattle.lora.specs.Count.{expected_of, frame_of, count_of}
use Rattle.lora.specs.Read.{body_of, agreed_on, read_of}
use Rattle.lora.specs.declared.Kind.{Kind}
use Rattle.lora.specs.declared.Kind.TheVariants.{Explicit, Agreed}
use Rattle.lora.specs.declared.Settings.{Settings}
use Rattle.lora.proofs.CountLaws.{counted, takes-agreed}
use Rattle.promises.specs.Refusals.{Told}

pub front : (k : Kind) (sf : ℕ) (low : Bool) (len : ℕ) (symbols : List ℕ) → Told k sf low len symbols → (room marks : ℕ)
    → read_of sf low (expected_of k) symbols room marks ≡ body_of (frame_of (record { sf = sf; low = low; kind = k })) symbols room marks len
unfolding read_of
front (Explicit cr flag) sf low len symbols told room marks = rw told
front (Agreed agreed cr flag) sf low len symbols told room marks =
    let here : agreed_on (count_of s len) (frame_of s) len symbols room marks ≡ body_of (frame_of s) symbols room marks len = rw told in
    ap (λ (n : ℕ). agreed_on (count_of s n) (frame_of s) n symbols room marks) (sym same) ∙ here
  where
    s : Settings
    s = record { sf = sf; low = low; kind = Agreed agreed cr flag }

    same : len ≡ agreed
    same = takes-agreed agreed cr flag len (counted s len (symbols_of (frame_of s) len) told).taken
