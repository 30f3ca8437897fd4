-- Calls of a file one after another.
use Rattle.std.proofs.Common.{◌≡◌, ◌≤◌, ◌+◌, ℕ, List, length, drop, inl, inr, refl, sym, ap, ◌∙◌, arith, subst}
use Rattle.std.specs.Prelude.{Some, Result, Ok, Err, IsErr}
use Rattle.std.proofs.lemmas.List.{length-drop, take_all}
use Rattle.lif_model.specs.Causes.{HasCause, Rose, next_count}
use Rattle.il_ports.specs.Files.{FileView, IsOutside, Overlaid, Mixed, TornAt, FileAnswers, StaysItself, TimePasses, Rests, TookBytes, Synced, IsClean, IsSettledFile}
use Rattle.il_ports.specs.Storing.{Writing, Put, StoredBytes}
use Rattle.il_ports.specs.declared.file_tape.StoreFault.TheVariants as fault
use Rattle.il_ports.proofs.FileBytes.{laid_more, mixed_more, laid_is_mixed}

-- ---- answers

pub itself_first : (v : FileView) → StaysItself v v
itself_first v = record { opened = λ access was. was; made = λ was. was; apart = λ was. was; unsynced = λ was. was }

pub itself_on : (v u w : FileView) → StaysItself v u → StaysItself u w → StaysItself v w
itself_on v u w first next = record {
  opened = λ access was. next.opened access (first.opened access was);
  made = λ was. next.made (first.made was);
  apart = λ was. next.apart (first.apart was);
  unsynced = λ was. next.unsynced (first.unsynced was);
}

-- nothing was asked of it yet
pub answers_first : (v : FileView) → FileAnswers {T = Unit {0}} {E = Unit {0}} v v (Ok tt)
answers_first v = record { itself = itself_first v; named = refl; told = refl; held = λ access held. held; cause = refl }

-- after calls that went well
pub answers_on : {S T D E : Type 0} (x : S) (v u w : FileView) (answer : Result T E) → FileAnswers {T = S} {E = D} v u (Ok x) → FileAnswers u w answer → FileAnswers v w answer
answers_on x v u w answer first next = record {
  itself = itself_on v u w first.itself next.itself;
  named = next.named ∙ first.named;
  told = next.told ∙ first.told;
  held = λ access held. next.held access (first.held access held);
  cause = go answer next.cause;
}
  where
    go : {T E : Type 0} (answer : Result T E) → HasCause u.failures w.failures answer → HasCause v.failures w.failures answer
    go (Ok y) cause = cause ∙ first.cause
    go (Err y) cause = subst (λ (n : ℕ). Rose n w.failures) first.cause cause

-- the same answer in other words
pub answers_as : {S T D E : Type 0} (x : S) (y : T) (v w : FileView) → FileAnswers {T = S} {E = D} v w (Ok x) → FileAnswers {T = T} {E = E} v w (Ok y)
answers_as x y v w answers = record { itself = answers.itself; named = answers.named; told = answers.told; held = answers.held; cause = answers.cause }

pub failed_as : {S T D E : Type 0} (x : D) (y : E) (v w : FileView) → FileAnswers {T = S} {E = D} v w (Err x) → FileAnswers {T = T} {E = E} v w (Err y)
failed_as x y v w answers = record { itself = answers.itself; named = answers.named; told = answers.told; held = answers.held; cause = answers.cause }

-- ---- calls that change nothing

pub rests_on : (v u w : FileView) → Rests v u → Rests u w → Rests v w
rests_on v u w first next = record {
  seen = next.seen ∙ first.seen;
  kept = next.kept ∙ first.kept;
  sound = next.sound ∙ first.sound;
  moment = next.moment ∙ first.moment;
  nothing_else = λ m c left. first.nothing_else m c (next.nothing_else m c left);
  keeps = λ m c left. next.keeps m c (first.keeps m c left);
}

pub still_clean : (v w : FileView) → Rests v w → IsClean v → IsClean w
still_clean v w rests clean = record { sound = rests.sound ∙ clean.sound; synced = rests.seen ∙ clean.synced ∙ sym rests.kept }

pub still_settled : (v w : FileView) → Rests v w → IsSettledFile v → IsSettledFile w
still_settled v w rests settled = record {
  clean = still_clean v w rests settled.clean;
  since = λ b kept m c left. settled.since b (sym rests.kept ∙ kept) m c (rests.nothing_else m c left);
}

-- ---- calls that write

-- reads give what they gave, but at some places
abbrev pub StaysBeside : ℕ → ℕ → FileView → FileView → Type 0
StaysBeside from count v u = (s : List ℕ) → v.seen ≡ Some s → (t : List ℕ) × (u.seen ≡ Some t) × Mixed from count s t

-- two calls that write within some places
pub passes_on : (from count from₂ count₂ : ℕ) (v u w : FileView) → ((i : ℕ) → IsOutside from count i → IsOutside from₂ count₂ i) → from₂ + count₂ ≤ from + count
    → StaysBeside from count v u → TimePasses from count v u → TimePasses from₂ count₂ u w → TimePasses from count v w
passes_on from count from₂ count₂ v u w within ends beside first next = record {
  later = omega (arith, first.later, next.later);
  nothing_else = λ s b seen kept m c le left.
      let t = beside s seen in
      let d = first.kept s b seen kept in
      elim (next.nothing_else t.0 d.0 t.1 d.1 m c (omega (arith, le, first.later)) left) [
        | inl earlier ↦ first.nothing_else s b seen kept m c le earlier
        | inr torn ↦ inr (both s b t.0 d.0 c t.2 d.2 torn)
      ];
  keeps = λ m c le past. next.keeps m c (omega (arith, le, first.later)) (first.keeps m c le past);
  kept = λ s b seen kept.
      let t = beside s seen in
      let d = first.kept s b seen kept in
      let e = next.kept t.0 d.0 t.1 d.1 in
      (e.0, e.1, both s b t.0 d.0 e.0 t.2 d.2 e.2);
  told = next.told ∙ first.told;
}
  where
    both : (s b t d c : List ℕ) → Mixed from count s t → TornAt from count s b d → TornAt from₂ count₂ t d c → TornAt from count s b c
    both s b t d c mixed torn torn₂ = record {
      elsewhere = λ i out is.
          let stays = torn.elsewhere i out is in
          torn₂.elsewhere i (within i out) (stays ∙ is ∙ sym (mixed.elsewhere i out)) ∙ stays;
      no_shorter = omega (arith, torn.no_shorter, torn₂.no_shorter, mixed.size.no_shorter);
      no_longer = omega (arith, torn.no_longer, torn₂.no_longer, mixed.size.no_longer, ends);
    }

module _ (from : ℕ) (bytes : List ℕ) where
  -- nothing is written yet
  pub writes_first : (v : FileView) → IsClean v → Writing from 0 bytes v v
  writes_first v clean = record {
    answers = answers_first v;
    sound = clean.sound;
    seen = λ s is. (s, is, record { here = λ i lt. absurd (omega (arith, lt)); elsewhere = λ i out. refl; size = record { no_shorter = omega arith; no_longer = omega arith } });
    time = record {
      later = omega arith;
      nothing_else = λ s b seen kept m c le left. inl left;
      keeps = λ m c le past. past;
      kept = λ s b seen kept. (b, kept, record { elsewhere = λ i out is. refl; no_shorter = omega arith; no_longer = omega arith });
      told = refl;
    };
  }

  -- what was written is within the places of all bytes
  beside : (a : ℕ) (v u : FileView) → a ≤ length bytes → Writing from a bytes v u → StaysBeside from (length bytes) v u
  beside a v u fits so_far s is =
      let t = so_far.seen s is in
      (t.0, t.1, laid_is_mixed from a bytes s t.0 fits t.2)

  within : (a : ℕ) (rest : List ℕ) → a ≤ length bytes → rest ≡ drop a bytes → (i : ℕ) → IsOutside from (length bytes) i → IsOutside (from + a) (length rest) i
  within a rest fits is i (inl before) = inl (omega (arith, before))
  within a rest fits is i (inr after) = inr (omega (arith, after, fits, length-drop a bytes, ap (λ (l : List ℕ). length l) is))

  ends : (a : ℕ) (rest : List ℕ) → a ≤ length bytes → rest ≡ drop a bytes → from + a + length rest ≤ from + length bytes
  ends a rest fits is = omega (arith, fits, length-drop a bytes, ap (λ (l : List ℕ). length l) is)

  -- time of one write more
  time_on : {E : Type 0} (a : ℕ) (rest : List ℕ) (v u w : FileView) (answer : Result ℕ E) → a ≤ length bytes → rest ≡ drop a bytes
      → Writing from a bytes v u → TookBytes (from + a) rest u w answer → TimePasses from (length bytes) v w
  time_on a rest v u w answer fits is so_far took =
      passes_on from (length bytes) (from + a) (length rest) v u w (within a rest fits is) (ends a rest fits is) (beside a v u fits so_far) so_far.time took.time

  -- so many bytes more
  pub writes_on : {E : Type 0} (a count : ℕ) (rest : List ℕ) (v u w : FileView) → a ≤ length bytes → rest ≡ drop a bytes
      → Writing from a bytes v u → TookBytes {E = E} (from + a) rest u w (Ok count) → Writing from (a + count) bytes v w
  writes_on a count rest v u w fits is so_far took = record {
    answers = answers_on tt v u w (Ok tt) so_far.answers (answers_as count tt u w took.answers);
    sound = took.sound ∙ so_far.sound;
    seen = λ s told.
        let t = so_far.seen s told in
        let x = took.answer_is.2 t.0 t.1 in
        (x.0, x.1, laid_more from a count bytes rest s t.0 x.0 is (omega (arith, fits, took.answer_is.1, length-drop a bytes, ap (λ (l : List ℕ). length l) is)) t.2 x.2);
    time = time_on a rest v u w (Ok count) fits is so_far took;
  }

  -- a write that failed
  pub put_not : {T E : Type 0} (a : ℕ) (rest : List ℕ) (v u w : FileView) (e : E) (answer : Result T E) → IsErr answer → a ≤ length bytes → rest ≡ drop a bytes
      → Writing from a bytes v u → TookBytes {E = E} (from + a) rest u w (Err e) → Put from bytes v w answer
  put_not a rest v u w e (Ok x) failed fits is so_far took = cc
  put_not a rest v u w e (Err x) failed fits is so_far took = record {
    answers = failed_as e x v w (answers_on tt v u w (Err e) so_far.answers took.answers);
    sound = took.sound ∙ so_far.sound;
    time = time_on a rest v u w (Err e) fits is so_far took;
    answer_is = λ s told.
        let t = so_far.seen s told in
        let x = took.answer_is t.0 t.1 in
        (x.0, x.1, mixed_more from a bytes rest s t.0 x.0 fits is t.2 x.2);
  }

  -- all are written
  pub put_all : {T E : Type 0} (a : ℕ) (v w : FileView) (x : T) → a ≡ length bytes → Writing from a bytes v w → Put {T = T} {E = E} from bytes v w (Ok x)
  put_all a v w x last so_far = record {
    answers = answers_as tt x v w so_far.answers;
    sound = so_far.sound;
    time = so_far.time;
    answer_is = λ s is.
        let t = so_far.seen s is in
        (t.0, t.1, subst (λ (l : List ℕ). Overlaid from l s t.0) (take_all a bytes (omega (arith, last))) t.2);
  }

  put_beside : {T E : Type 0} (v u : FileView) (answer : Result T E) → Put from bytes v u answer → StaysBeside from (length bytes) v u
  put_beside v u (Ok x) did s is =
      let t = did.answer_is s is in
      (t.0, t.1, record { elsewhere = t.2.elsewhere; size = t.2.size })
  put_beside v u (Err x) did s is = did.answer_is s is

  -- the sync after them
  module _ {T E S D : Type 0} (v u w : FileView) (wrote : Result T E) (did : Put from bytes v u wrote) where
    time_of : (answer : Result S D) → Synced u w answer → TimePasses from (length bytes) v w
    time_of answer synced = passes_on from (length bytes) 0 0 v u w (λ i out. inr (omega arith)) (omega arith) (put_beside v u wrote did) did.time synced.time

    clean : (x : S) → Synced {E = D} u w (Ok x) → IsClean w
    clean x synced = record { sound = synced.answer_is.0; synced = synced.answer_is.1 ∙ sym synced.answer_is.2 }

  pub stored : {T E S D : Type 0} (v u w : FileView) (x : T) (y : S) → Put {E = E} from bytes v u (Ok x) → Synced {E = D} u w (Ok y) → StoredBytes from bytes v w (Ok x)
  stored v u w x y did synced = record {
    answers = answers_on x v u w (Ok x) did.answers (answers_as y x u w synced.answers);
    time = time_of v u w (Ok x) did (Ok y) synced;
    answer_is = (
      clean v u w (Ok x) did y synced,
      λ s is.
          let t = did.answer_is s is in
          (t.0, synced.answer_is.2 ∙ t.1, t.2),
    );
  }

  risen : (a b c : ℕ) → Rose a b → c ≡ b → Rose a c
  risen a b c rose is = record { later = omega (arith, rose.later, is); risen = subst (λ (n : ℕ). next_count a ≤ n) (sym is) rose.risen }

  -- not all were written
  pub stored_not : {T E S D X : Type 0} (v u w : FileView) (x : E) (y : S) → Put {T = T} from bytes v u (Err x) → Synced {E = D} u w (Ok y)
      → StoredBytes {T = X} from bytes v w (Err fault.Failed)
  stored_not v u w x y did synced = record {
    answers = record {
      itself = itself_on v u w did.answers.itself synced.answers.itself;
      named = synced.answers.named ∙ did.answers.named;
      told = synced.answers.told ∙ did.answers.told;
      held = λ access held. synced.answers.held access (did.answers.held access held);
      cause = risen v.failures u.failures w.failures did.answers.cause synced.answers.cause;
    };
    time = time_of v u w (Err x) did (Ok y) synced;
    answer_is = clean v u w (Err x) did y synced;
  }

  later : {T E : Type 0} (v u : FileView) (answer : Result T E) → HasCause v.failures u.failures answer → v.failures ≤ u.failures
  later v u (Ok x) cause = omega (arith, cause)
  later v u (Err x) cause = cause.later

  -- the sync failed
  pub unsynced : {T E S D X : Type 0} (v u w : FileView) (wrote : Result T E) (y : D) → Put from bytes v u wrote → Synced {T = S} u w (Err y)
      → StoredBytes {T = X} from bytes v w (Err fault.Unsynced)
  unsynced v u w wrote y did synced = record {
    answers = record {
      itself = itself_on v u w did.answers.itself synced.answers.itself;
      named = synced.answers.named ∙ did.answers.named;
      told = synced.answers.told ∙ did.answers.told;
      held = λ access held. synced.answers.held access (did.answers.held access held);
      cause = record {
        later = omega (arith, later v u wrote did.answers.cause, synced.answers.cause.later);
        risen = omega (arith, later v u wrote did.answers.cause, synced.answers.cause.risen);
      };
    };
    time = time_of v u w wrote did (Err y) synced;
    answer_is = synced.answer_is;
  }
