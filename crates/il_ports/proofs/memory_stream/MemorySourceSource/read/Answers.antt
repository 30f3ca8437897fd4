use Rattle.std.proofs.Common.{◌≡◌, ℕ, ◌+◌, ◌-◌, ◌≤◌, List, ◌++◌, length, take, drop, sym, ap, ap₂, ◌∙◌, arith, length-drop, length-append}
use Rattle.std.proofs.lemmas.List.{take-append-le, take-append-drop, drop-drop, length-take-le, nil_from_length}
use Rattle.std.proofs.Math.Seq.{take-length}
use Rattle.il_ports.proofs.memory_stream.MemorySourceSource.read.Goals as goal

-- the rest of a list, cut to its own length
whole_rest : (all : List ℕ) (at : ℕ) → take (length all - at) (drop at all) ≡ drop at all
whole_rest all at = ap (λ k. take k (drop at all)) (sym (length-drop at all)) ∙ take-length (drop at all)

-- what was copied to the front of the buffer are the next bytes
next_bytes : (all copied more : List ℕ) (at n : ℕ) → copied ≡ take n (drop at all) → n ≤ length (drop at all)
    → drop at all ≡ take n (copied ++ more) ++ drop (at + n) all
next_bytes all copied more at n same fits =
    let size : length copied ≡ n = ap length same ∙ length-take-le n (drop at all) fits in
    let front : take n (copied ++ more) ≡ copied = take-append-le n copied more (omega arith) ∙ ap (λ k. take k copied) (sym size) ∙ take-length copied in
    sym (ap₂ (λ x y. x ++ y) (front ∙ same) (sym (drop-drop n at all)) ∙ take-append-drop n (drop at all))

pub returns-clause-bytes : goal.returns-clause-bytes
returns-clause-bytes c =
    let bytes = c.self.inside.bytes.items in
    let at = c.self.inside.taken in
    let n = c.min-count.result in
    let whole : take (length c.deref-2.result.now - at) (drop at c.deref-2.result.now) ≡ drop at bytes = ap (λ l. take (length l - at) (drop at l)) c.deref-2.ensures.value ∙ whole_rest bytes at in
    let copied : c.copy_from_slice.new.self ≡ take n (drop at bytes) = c.copy_from_slice.ensures.after ∙ ap (take n) whole in
    let size : length (take (length c.deref-2.result.now - at) (drop at c.deref-2.result.now)) ≡ length (drop at bytes) = ap length whole in
    let fits : n ≤ length (drop at bytes) = omega arith in (
      ap (λ v. v.left) (sym c.self.view_is) ∙ next_bytes bytes _ _ at n copied fits,
      λ zero room. nil_from_length _ (omega (arith, length-drop (at + n) bytes, length-drop at bytes, length-append c.copy_from_slice.new.self (drop n c.args.into.now))),
    )
