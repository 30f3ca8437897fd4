-- Laws of what a log shows of the statuses that a second controller asked for: logs one after the other.
use Rattle.std.proofs.Common.{Bool, List, None, Option, Some, [], ap, false, not, refl, suc, sym, true, zero, ℕ, ◌&&◌, ◌++◌, ◌==◌, ◌∙◌, ◌∷◌, ◌≡◌}
use Rattle.std.specs.Prelude.{if◌then◌else◌}
use Rattle.std.specs.List.{list_all}
use Rattle.std.proofs.Math.Bool.{and-false}
use Rattle.std.proofs.lemmas.Bool.{and_from, and_parts, eq-eqb, not-true}
use Rattle.std.proofs.lemmas.List.Folds.{list_all-append}
use Rattle.il_frames.specs.declared.entry.Entry.{Entry}
use Rattle.il_frames.specs.declared.entry.Outcome.{Outcome}
use Rattle.il_frames.specs.declared.entry.Outcome.TheVariants as outcome
use Rattle.il_frames.specs.declared.frame.Frame.{Frame}
use Rattle.il_frames.specs.Frames.{is_data}
use Rattle.il_frames.specs.NamedFrames.{entry, is_frame, ifc}
use Rattle.il_device.specs.Takes.{eto}
use Rattle.loop_model.specs.Exchanges.{FrameLost, commanded, cut_at}
use Rattle.il_guest.specs.Frames.{sst}
use Rattle.il_guest.proofs.RoundLaws.{is_same-true}
use Rattle.il_ring.specs.declared.flight.Flight.{Flight}
use Rattle.il_ring.specs.Books.{BooksView}
use Rattle.il_ring.specs.ControlledAdds.{standing}
use Rattle.il_ring.specs.Lending.{entry_of_kept}
use Rattle.il_ring.specs.Lends.{handed_entries}
use Rattle.il_ring.specs.Statuses.{asked_after, asked_all, is_ended, is_taken_by, reports_none}

-- ---- logs one after the other

pub asked_all-append : (k : ℕ) (asked : Option ℕ) (xs ys : List Entry) → asked_all k asked (xs ++ ys) ≡ asked_all k (asked_all k asked xs) ys
asked_all-append k asked [] ys = refl
asked_all-append k asked (x ∷ xs) ys = asked_all-append k (asked_after k asked x) xs ys

-- these entries begin with no end that party k took
abbrev pub NoEnd : ℕ → List Entry → Type 0
NoEnd k log = (e : Entry) → is_ended k e log ≡ false

-- ---- entries that report nothing

-- the entry is no SST of party k that came back, and no end that it took
abbrev pub is_mute : ℕ → Entry → Bool
is_mute k e = not (reports_none k e) && not (is_frame e.frame eto && is_taken_by k e.outcome)

abbrev pub are_mute : ℕ → List Entry → Bool
are_mute k entries = list_all (is_mute k) entries

pub mute-NoEnd : (k : ℕ) (entries : List Entry) → are_mute k entries ≡ true → NoEnd k entries
mute-NoEnd k [] all e = refl
mute-NoEnd k (x ∷ xs) all e =
    let one = (and_parts (is_mute k x) (are_mute k xs) all).0 in
    let no_end = not-true (is_frame x.frame eto && is_taken_by k x.outcome) (and_parts (not (reports_none k x)) (not (is_frame x.frame eto && is_taken_by k x.outcome)) one).1 in
    ap (λ b. (x.source == e.source) && b) no_end ∙ and-false (x.source == e.source)

-- ---- which entries those are

-- not of party k
pub mute-other : (k q : ℕ) (f : Frame) (o : Outcome) → (q == k) ≡ false → is_frame f eto ≡ false → is_mute k (entry q f o) ≡ true
mute-other k q f o other no_end = rw (other, no_end) refl

-- of party k, other than SST
pub mute-own : (k : ℕ) (f : Frame) (o : Outcome) → is_frame f sst ≡ false → is_frame f eto ≡ false → is_mute k (entry k f o) ≡ true
mute-own k f o no_start no_end = rw (eq-eqb k k refl, no_start, no_end) refl

-- one that did not come back, and that another party took
pub mute-taken : (k q j : ℕ) (f : Frame) → (j == k) ≡ false → is_mute k (entry q f (outcome.Taken j)) ≡ true
mute-taken k q j f other =
    let none : reports_none k (entry q f (outcome.Taken j)) ≡ false = ap (λ b. (q == k) && b) (and-false (is_frame f sst)) ∙ and-false (q == k) in
    let no_end : (is_frame f eto && (j == k)) ≡ false = ap (λ b. is_frame f eto && b) other ∙ and-false (is_frame f eto) in
    and_from (not (reports_none k (entry q f (outcome.Taken j)))) (not (is_frame f eto && (j == k))) (ap not none) (ap not no_end)

pub data-no-end : (f : Frame) → is_data f ≡ true → is_frame f eto ≡ false
data-no-end f bytes = by (is_frame f eto) refl
  where
    by : (b : Bool) → is_frame f eto ≡ b → b ≡ false
    by true is = let clash : true ≡ false = sym bytes ∙ ap is_data (is_same-true f eto is) in cc
    by false is = refl

-- one that was lost
pub mute-lost : (k q : ℕ) (f : Frame) (p : ℕ) → is_mute k (entry q f (outcome.Lost p)) ≡ true
mute-lost k q f p =
    let none : reports_none k (entry q f (outcome.Lost p)) ≡ false = ap (λ b. (q == k) && b) (and-false (is_frame f sst)) ∙ and-false (q == k) in
    and_from (not (reports_none k (entry q f (outcome.Lost p)))) (not (is_frame f eto && false)) (ap not none) (ap not (and-false (is_frame f eto)))

-- a data frame that it took
pub mute-byte : (k q : ℕ) (f : Frame) (j : ℕ) → is_data f ≡ true → is_mute k (entry q f (outcome.Taken j)) ≡ true
mute-byte k q f j bytes =
    let none : reports_none k (entry q f (outcome.Taken j)) ≡ false = ap (λ b. (q == k) && b) (and-false (is_frame f sst)) ∙ and-false (q == k) in
    let no_end : (is_frame f eto && (j == k)) ≡ false = ap (λ b. b && (j == k)) (data-no-end f bytes) in
    and_from (not (reports_none k (entry q f (outcome.Taken j)))) (not (is_frame f eto && (j == k))) (ap not none) (ap not no_end)

-- ---- around the rounds

-- none of these entries is party k's
abbrev pub asks_none : ℕ → List Entry → Bool
asks_none k entries = list_all (λ e. not (e.source == k)) entries

-- the host hands control over
pub handed-asks : (k a : ℕ) → (0 == k) ≡ false → asks_none k (handed_entries a k) ≡ true
handed-asks k a other = rw other refl

-- and takes it back
pub ifc-mute : (k : ℕ) → (0 == k) ≡ false → are_mute k (commanded 0 ifc) ≡ true
ifc-mute k other = rw other refl

-- or its IFC or RFC was lost
pub ifc-cut : (k m q : ℕ) → (0 == k) ≡ false → are_mute k (cut_at (commanded 0 ifc) m (FrameLost q)) ≡ true
ifc-cut k zero q other = rw other refl
ifc-cut k (suc zero) q other = rw other refl
ifc-cut k (suc (suc m)) q other = rw other refl

-- the frame that party k keeps and the one that is at the host, which is none of the host's
pub standing-mute : (k : ℕ) (b : BooksView) → (0 == k) ≡ false → ((f : Flight) → b.kept ≡ Some f → (is_data f.sent ≡ true) × ((f.source == k) ≡ false)) → ((f : Flight) → b.lent ≡ Some f → (f.source == 0) ≡ false) → are_mute k (standing k b) ≡ true
standing-mute k b other kept lent =
    list_all-append (is_mute k) (entry_of_kept k b.kept) (entry_of_kept 0 b.lent)
    ∙ and_from (are_mute k (entry_of_kept k b.kept)) (are_mute k (entry_of_kept 0 b.lent)) (kept_so b.kept refl) (lent_so b.lent refl)
  where
    kept_so : (o : Option Flight) → b.kept ≡ o → are_mute k (entry_of_kept k o) ≡ true
    kept_so None is = refl
    kept_so (Some f) is =
        let at = kept f is in
        ap (λ own. are_mute k (entry f.source f.sent (if own then outcome.Back f.now else outcome.Taken k) ∷ [])) at.1
        ∙ and_from (is_mute k (entry f.source f.sent (outcome.Taken k))) true (mute-byte k f.source f.sent k at.0) refl

    lent_so : (o : Option Flight) → b.lent ≡ o → are_mute k (entry_of_kept 0 o) ≡ true
    lent_so None is = refl
    lent_so (Some f) is =
        ap (λ own. are_mute k (entry f.source f.sent (if own then outcome.Back f.now else outcome.Taken 0) ∷ [])) (lent f is)
        ∙ and_from (is_mute k (entry f.source f.sent (outcome.Taken 0))) true (mute-taken k f.source 0 f.sent other) refl
