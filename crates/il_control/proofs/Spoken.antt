-- What comes to the drive while a device sends.
use Rattle.std.proofs.Common.{◌≡◌, ◌∙◌, ◌≤◌, ◌<◌, ◌+◌, ◌-◌, ◌++◌, ◌||◌, ◌==◌, ℕ, suc, Bool, true, false, List, [], ◌∷◌, Option, Some, length, refl, sym, ap, subst, arith, append-nil}
use Rattle.std.specs.Prelude.{if◌then◌else◌, nat_le, nat_lt}
use Rattle.std.specs.List.{list_all}
use Rattle.std.proofs.lemmas.Bool.{and_parts, le-leb, leb-true, lt-leb, lt-ltb, le-ltb, ne_eqb}
use Rattle.il_frames.specs.declared.frame.Frame.{Frame}
use Rattle.il_frames.specs.declared.entry.Entry.{Entry}
use Rattle.il_frames.specs.declared.entry.Outcome.TheVariants as outcome
use Rattle.il_frames.specs.declared.frame.Class.{Class}
use Rattle.il_frames.specs.declared.frame.Class.TheVariants as class
use Rattle.il_frames.specs.Frames.{byte_of, class_of, is_data, is_data_class, with_service}
use Rattle.il_device.specs.declared.device.Out.{Out}
use Rattle.il_device.specs.declared.device.Out.TheVariants.{Pass, Source}
use Rattle.il_device.specs.Takes.{eto}
use Rattle.il_ports.specs.Media.{MediumView}
use Rattle.il_frames.specs.NamedFrames.{entry}
use Rattle.loop_model.specs.Exchanges.{Start, Sda, Sst, Sdi, Sai, start_frame, Break, cut_at, can_cut}
use Rattle.loop_model.specs.Reach.{distance, brings_to}
use Rattle.il_ring.specs.Rings.{RingView, devices_of, drive_party}
use Rattle.il_ring.proofs.RoundRoles.{data_not_exact}
use Rattle.il_ring.proofs.Adding.{adds_nothing, adds_nothing-came, adds_nothing-answers, adds_more, adds_more-came, adds_more-answers}
use Rattle.il_ring.specs.Journeys.{is_identify_class}
use Rattle.il_control.specs.Brought.{ComesAs, MayComeAs, Brought, BroughtIf, CutBrought, is_from_here}
use Rattle.il_control.specs.Receives.{AllSpoken, AddsBy, Brings, CutBrings, own_frames}
use Rattle.il_control.proofs.Brought.{brought_then, cut_brought_front, from_here_parts, same_place}

-- ---- lists of frames

pub spoken_then : (gs hs : List Frame) → AllSpoken gs → AllSpoken hs → AllSpoken (gs ++ hs)
spoken_then [] hs first more = more
spoken_then (g ∷ gs) hs first more = (first.0, spoken_then gs hs first.1 more)

-- n entries after these
abbrev pub after_all : List Entry → ℕ → ℕ
after_all [] n = n
after_all (x ∷ xs) n = suc (after_all xs n)

-- a cut after entries that stand whole
pub cut_after_brought : (k q n : ℕ) (xs ys : List Entry) (gs hs : List Frame) → Brought k q xs gs → CutBrought k q ys n hs → CutBrought k q (xs ++ ys) (after_all xs n) (gs ++ hs)
cut_after_brought k q n [] ys gs hs first more = subst (λ gs. CutBrought k q ys n (gs ++ hs)) (sym first) more
cut_after_brought k q n (x ∷ xs) ys gs hs first more = by (brings_to k q x) gs (λ gs first. cut_after_brought k q n xs ys gs hs first more) first
  where
    by : (b : Bool) (gs : List Frame) → ((gs : List Frame) → Brought k q xs gs → CutBrought k q (xs ++ ys) (after_all xs n) (gs ++ hs)) → BroughtIf b (ComesAs q x.frame) (Brought k q xs) gs → BroughtIf b (ComesAs q x.frame) (CutBrought k q (xs ++ ys) (after_all xs n)) (gs ++ hs)
    by false gs rest first = rest gs first
    by true [] rest first = absurd first
    by true (g ∷ gs) rest first = (first.0, rest gs first.1)

-- the entries of such a cut
pub cut_entries : (xs ys : List Entry) (n : ℕ) (b : Break) → cut_at (xs ++ ys) (after_all xs n) b ≡ xs ++ cut_at ys n b
cut_entries [] ys n b = refl
cut_entries (x ∷ xs) ys n b = ap (λ es. x ∷ es) (cut_entries xs ys n b)

pub cut_legal : (xs ys : List Entry) (n : ℕ) (b : Break) → can_cut 0 (xs ++ ys) (after_all xs n) b ≡ can_cut 0 ys n b
cut_legal [] ys n b = refl
cut_legal (x ∷ xs) ys n b = cut_legal xs ys n b

-- more entries after a cut
pub cut_more : (k q n : ℕ) (b : Break) (xs ys : List Entry) (gs : List Frame) → can_cut 0 xs n b ≡ true → CutBrought k q xs n gs → CutBrought k q (xs ++ ys) n gs
cut_more k q n b xs ys gs cuts cut = cut_brought_front k q xs ys n b gs cuts cut

-- ---- which frames come how

data_not_poll : (k : Class) (byte : ℕ) → is_data_class k ≡ true → is_identify_class k ≡ false
data_not_poll class.Dab byte is = refl
data_not_poll class.Dsr byte is = refl
data_not_poll class.End byte is = refl
data_not_poll class.Esr byte is = refl
data_not_poll _ byte is = cc

pub data_may : (q : ℕ) (f g : Frame) → is_data f ≡ true → is_data g ≡ true → MayComeAs q f g
data_may q f g sent came = record {
  data_frame = λ is. came;
  address = λ is. let clash = sym sent ∙ ap is_data is in cc;
  poll = λ is. let clash = sym is ∙ data_not_poll (class_of f) (byte_of f) sent in cc;
  other = λ is. let clash = sym is ∙ data_not_exact (class_of f) (byte_of f) sent in cc;
}

pub data_right : (q : ℕ) (f g : Frame) → is_data f ≡ true → is_data g ≡ true → with_service g ≡ with_service f → ComesAs q f g
data_right q f g sent came same = record {
  data_frame = λ is. (came, same);
  address = λ is. let clash = sym sent ∙ ap is_data is in cc;
  poll = λ is. let clash = sym is ∙ data_not_poll (class_of f) (byte_of f) sent in cc;
  other = λ is. let clash = sym is ∙ data_not_exact (class_of f) (byte_of f) sent in cc;
}

pub start_comes : (q : ℕ) (s : Start) (g : Frame) → g ≡ start_frame s → ComesAs q (start_frame s) g
start_comes q Sda g is = record { data_frame = λ e. cc; address = λ e. let clash : true ≡ false = ap (λ f. byte_of f == 0x60) e in cc; poll = λ e. cc; other = λ e f. is }
start_comes q Sst g is = record { data_frame = λ e. cc; address = λ e. let clash : true ≡ false = ap (λ f. byte_of f == 0x61) e in cc; poll = λ e. cc; other = λ e f. is }
start_comes q Sdi g is = record { data_frame = λ e. cc; address = λ e. let clash : true ≡ false = ap (λ f. byte_of f == 0x62) e in cc; poll = λ e. cc; other = λ e f. is }
start_comes q Sai g is = record { data_frame = λ e. cc; address = λ e. let clash : true ≡ false = ap (λ f. byte_of f == 0x63) e in cc; poll = λ e. cc; other = λ e f. is }

-- ---- one round

far_from : (b : Bool) (x y : ℕ) → b ≡ false → (if b then x else y) ≡ y
far_from true x y is = cc
far_from false x y is = refl

near_from : (b : Bool) (x y : ℕ) → b ≡ true → (if b then x else y) ≡ x
near_from true x y is = refl
near_from false x y is = cc

-- ETO that was taken by the host did not come to a party up to its source
pub eto_not : (k q p : ℕ) → 1 ≤ q → q ≤ p → p ≤ k → brings_to k q (entry p eto (outcome.Taken 0)) ≡ false
eto_not k q p some near within =
    let home = far_from (nat_lt p 0) (0 - p) ((suc k + 0) - p) (le-ltb p 0 (omega arith)) in
    let here = far_from (nat_lt p q) (q - p) ((suc k + q) - p) (le-ltb p q near) in
    lt-leb (distance k p q) (distance k p 0) (omega (arith, home, here, some, near, within))

-- a message of the host that party p took came to the parties up to it
pub taken_brings : (k q p : ℕ) (f : Frame) → 1 ≤ q → q ≤ p → brings_to k q (entry 0 f (outcome.Taken p)) ≡ true
taken_brings k q p f some near =
    let to_q = near_from (nat_lt 0 q) (q - 0) ((suc k + q) - 0) (lt-ltb 0 q some) in
    let to_p = near_from (nat_lt 0 p) (p - 0) ((suc k + p) - 0) (lt-ltb 0 p (omega (arith, some, near))) in
    le-leb (distance k 0 q) (distance k 0 p) (omega (arith, to_q, to_p, near))

-- with the entry that brings nothing after it
pub brought_end : (k q p : ℕ) (xs : List Entry) (gs : List Frame) → 1 ≤ q → q ≤ p → p ≤ k → Brought k q xs gs → Brought k q (xs ++ entry p eto (outcome.Taken 0) ∷ []) gs
brought_end k q p xs gs some near within brought =
    subst (Brought k q (xs ++ entry p eto (outcome.Taken 0) ∷ [])) (append-nil gs) (brought_then k q xs (entry p eto (outcome.Taken 0) ∷ []) gs [] brought (at (brings_to k q (entry p eto (outcome.Taken 0))) (eto_not k q p some near within)))
  where
    at : (b : Bool) → b ≡ false → BroughtIf b (ComesAs q eto) (Brought k q []) []
    at true is = cc
    at false is = refl

-- ---- sums

-- what follows of the frames
pub added_as : {M : Type 0} (view : M → MediumView) (m s : RingView M) (p : ℕ) (a : Option ℕ) (entries : List Entry) (b : Option ℕ) (B C : ℕ → ℕ → List Frame → List Out → Type 0) → AddsBy view m p a entries b B s → ((k q : ℕ) (gs : List Frame) (outs : List Out) → B k q gs outs → C k q gs outs) → AddsBy view m p a entries b C s
added_as view m s p a entries b B C added so = record { adds = added.adds; near = λ near. so _ _ _ _ (added.near near); far = added.far }

-- own frames of answers one after the other
pub own_then : (first more : List Out) → own_frames (first ++ more) ≡ own_frames first ++ own_frames more
own_then [] more = refl
own_then (Pass g ∷ first) more = own_then first more
own_then (Source g ∷ first) more = ap (λ gs. g ∷ gs) (own_then first more)

pub brings_nothing : {M : Type 0} (view : M → MediumView) (m : RingView M) (p : ℕ) (S : List Frame → Type 0) → S [] → Brings view m p S (Some p) [] (Some p) m
brings_nothing view m p S nothing = record {
  adds = adds_nothing view m (Some p);
  near = λ near. (adds_nothing-came view m (Some p), λ at. subst (λ outs. S (own_frames outs)) (sym (adds_nothing-answers view m (Some p))) nothing);
  far = λ far. subst AllSpoken (sym (adds_nothing-came view m (Some p))) tt;
}

module _ {M : Type 0} (view : M → MediumView) (r m : RingView M) (p : ℕ) (S : List Frame → Type 0) (a b : Option ℕ) (xs : List Entry) (first : Brings view r p S a xs b m) where
  same_party : drive_party m ≡ drive_party r
  same_party = ap (λ n. n + 1) first.adds.before

  pub brings_more : (s : RingView M) (T U : List Frame → Type 0) (c : Option ℕ) (ys : List Entry) → Brings view m p T b ys c s → ((gs hs : List Frame) → S gs → T hs → U (gs ++ hs)) → Brings view r p U a (xs ++ ys) c s
  brings_more s T U c ys more join =
      let came = adds_more-came view r m s a b c xs ys first.adds more.adds in
      let answers = adds_more-answers view r m s a b c xs ys first.adds more.adds in
      record {
        adds = adds_more view r m s a b c xs ys first.adds more.adds;
        near = λ near.
            let after = more.near (subst (λ q. q ≤ p) (sym same_party) near) in (
              subst (Brought (length (devices_of r)) (drive_party r) (xs ++ ys)) (sym came)
                  (brought_then (length (devices_of r)) (drive_party r) xs ys first.adds.came more.adds.came (first.near near).0
                  (same_place r m (λ k q. Brought k q ys more.adds.came) first.adds.before first.adds.size after.0)),
              λ at. subst U (sym (ap own_frames answers ∙ own_then first.adds.answers more.adds.answers)) (join (own_frames first.adds.answers) (own_frames more.adds.answers) ((first.near near).1 at) (after.1 (same_party ∙ at))),
            );
        far = λ far. subst AllSpoken (sym came) (spoken_then first.adds.came more.adds.came (first.far far) (more.far (subst (λ q. p < q) (sym same_party) far)));
      }

  pub cut_brings_more : (s : RingView M) (c : Option ℕ) (ys : List Entry) (n : ℕ) (break : Break) → CutBrings view m p b ys n break c s → CutBrings view r p a (xs ++ ys) (after_all xs n) break c s
  cut_brings_more s c ys n break more =
      let cut = cut_at ys n break in
      let came = adds_more-came view r m s a b c xs cut first.adds more.adds in
      subst (λ es. AddsBy view r p a es c (λ k q gs outs. CutBrought k q (xs ++ ys) (after_all xs n) gs) s) (sym (cut_entries xs ys n break))
      (record {
        adds = adds_more view r m s a b c xs cut first.adds more.adds;
        near = λ near. subst (CutBrought (length (devices_of r)) (drive_party r) (xs ++ ys) (after_all xs n)) (sym came)
            (cut_after_brought (length (devices_of r)) (drive_party r) n xs ys first.adds.came more.adds.came (first.near near).0
            (same_place r m (λ k q. CutBrought k q ys n more.adds.came) first.adds.before first.adds.size (more.near (subst (λ q. q ≤ p) (sym same_party) near))));
        far = λ far. subst AllSpoken (sym came) (spoken_then first.adds.came more.adds.came (first.far far) (more.far (subst (λ q. p < q) (sym same_party) far)));
      })

-- ---- if the premise on the entries holds

pub device_source : (p : ℕ) → 1 ≤ p → (p == 0) ≡ false
device_source p some = ne_eqb p 0 (λ e. omega (arith, e, some))

-- the drive does not come after the source of an entry among these
pub near_source : (q p : ℕ) (xs : List Entry) (e : Entry) (ys : List Entry) → list_all (is_from_here q) (xs ++ e ∷ ys) ≡ true → e.source ≡ p → (p == 0) ≡ false → q ≤ p
near_source q p xs e ys from is device =
    let parts = from_here_parts q xs (e ∷ ys) from in
    let here = (and_parts (is_from_here q e) (list_all (is_from_here q) ys) parts.1).0 in
    leb-true q p (by (p == 0) device (ap (λ p. (p == 0) || nat_le q p) (sym is) ∙ here))
  where
    by : (b : Bool) → b ≡ false → (b || nat_le q p) ≡ true → nat_le q p ≡ true
    by true is here = cc
    by false is here = here
