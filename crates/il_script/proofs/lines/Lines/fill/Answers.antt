use Rattle.std.proofs.Common.{arith, ◌≡◌, ℕ, ◌-◌, ◌++◌, List, false, length, take, drop, ap, sym, subst, refl, ◌∙◌}
use Rattle.std.proofs.lemmas.List.{take-append-le, take_all}
use Rattle.std.specs.Io.KnownBytes.{Consumes}
use Rattle.il_script.specs.Progress.{Progress}
use Rattle.il_script.proofs.lines.Lines.fill.Goals as goal

-- what a slice of a whole vector leaves in it
written_back : (n len : ℕ) (piece items : List ℕ) → length piece ≡ len → take (n - 0) (take len (piece ++ drop (length piece) items)) ≡ take n piece
written_back n len piece items h =
    let size : n - 0 ≡ n = omega arith in
    ap (λ k. take k (take len (piece ++ drop (length piece) items))) size ∙ ap (take n) (take-append-le len piece (drop (length piece) items) (omega arith) ∙ take_all len piece (omega arith))

pub returns-else-count-eq0-clause-bytes : goal.returns-else-count-eq0-clause-bytes
returns-else-count-eq0-clause-bytes g c =
    let n = c.in_ok-count.count in
    let b = c.in_ok-count.ensures.bytes in
    let bound = c.in_ok-count.ensures.bound in
    let m = c.deref_mut.ensures.len in
    let same = c.read.auto.into in
    let held : take (n - 0) (take c.self.inside.chunk.len (c.read.new.into ++ drop (length c.read.new.into) c.self.inside.chunk.items)) ≡ take n c.read.new.into = written_back n c.self.inside.chunk.len c.read.new.into c.self.inside.chunk.items (same ∙ m) in
    rw (← c.self.view_is) (record {
      text = refl;
      begun = refl;
      taken = refl;
      bytes = subst (λ l. Consumes (g.S.Source.left c.args.source.now) (g.S.Source.left c.read.new.self) l) (sym held) b.0;
      ended = λ e. let no : c.self.inside.is_ended ≡ false = ap (λ (v : Progress). v.ended) c.self.view_is ∙ c.requires in cc;
      going = λ e. rw held (omega (arith, bound.1));
    })
