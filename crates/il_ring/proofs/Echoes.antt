-- A data or end frame that goes past silent devices comes to the party after them, or is lost before: so the held frame of
-- a talker comes back to it.
use Rattle.std.proofs.Common.{◌≡◌, ◌≢◌, ◌≤◌, ◌<◌, ◌+◌, ◌++◌, ◌⊎◌, ◌&&◌, inl, inr, ℕ, suc, Bool, true, false, not, List, [], ◌∷◌, Option, Some, None, length, refl, sym, ap, subst, ◌∙◌, arith}
use Rattle.std.specs.Prelude.{if◌then◌else◌}
use Rattle.std.proofs.lemmas.Bool.{and_parts, not-true}
use Rattle.il_frames.specs.declared.frame.Frame.{Frame}
use Rattle.il_frames.specs.declared.entry.Entry.{Entry}
use Rattle.il_frames.specs.Frames.{byte_of, is_data, with_service}
use Rattle.il_device.specs.declared.device.Out.{Out}
use Rattle.il_device.specs.State.{DeviceState, risen, risen_by}
use Rattle.il_ring.specs.declared.plan.Planned.{Planned}
use Rattle.il_ring.specs.declared.plan.PlanFault.{PlanFault}
use Rattle.il_ring.specs.declared.plan.PlanFault.TheVariants.{Lose, Alter}
use Rattle.il_ring.specs.declared.flight.Flight.{Flight}
use Rattle.il_ring.specs.Plans.{IsPlan, next_fault}
use Rattle.il_ring.specs.Flights.{altered_by, hit, lost_at}
use Rattle.il_ring.specs.Journeys.{Trip, trip, answered, missed, Meets, Reaches, Journey}
use Rattle.il_ring.proofs.Faults.{IsClear, clear_last, risen_by_last}
use Rattle.il_ring.proofs.Passes.{nothing_comes}
use Rattle.il_ring.specs.Lists.{First}
use Rattle.il_ring.proofs.DataPasses.{DataGoes, xor_other, next_alters}
use Rattle.il_ring.specs.Outcomes.{HearsAny}

-- so it came to the device after m others: as it was but for the service bit, with nothing planned on its way; or with
-- another byte
pub data Arrived (plan : List Planned) (n m : ℕ) (f : Flight) (g : Frame) : Type 0 where
  AsItWas : with_service g ≡ with_service f.now → IsClear plan n (suc m) → Arrived plan n m f g
  Otherwise : byte_of g ≢ byte_of f.now → f.altered ≡ false → (hop : ℕ) → hop ≤ m → next_fault plan (risen_by hop n) ≢ None → Arrived plan n m f g

-- the party after the devices ds answered it, by its rule
pub record Answered {D : Type 0} (rule : D → Frame → Out → D → Type 0) (plan : List Planned) (k n : ℕ) (log : List Entry) (f : Flight) (ds : List DeviceState) (d : D) (rest : List DeviceState) (u : Trip) (e : D) (rest_then : List DeviceState) : Type 0 where
  pub back : Frame
  pub altered : Bool
  pub data_frame : is_data back ≡ true
  pub came : Arrived plan n (length ds) f back
  pub out : Out
  pub takes : rule d back out e
  pub journey : Journey plan (k + 1) (answered (risen_by (suc (length ds)) n) log k (record f { now = back; altered = altered }) out) rest u rest_then

-- it was lost after this many links, on the way past m devices, the first of which is party j, to party k
pub record Gone (plan : List Planned) (j k m n : ℕ) (log : List Entry) (f : Flight) (u : Trip) : Type 0 where
  pub crossed : ℕ
  pub party : ℕ
  pub on_ring : (party ≡ k) ⊎ ((j ≤ party) × (party < j + m))
  pub is : u ≡ trip (risen_by (suc crossed) n) (log ++ lost_at f party ∷ []) None
  pub planned : next_fault plan (risen_by crossed n) ≢ None

-- ---- over the link to that party

module _ {D : Type 0} (rule : D → Frame → Out → D → Type 0) (plan : List Planned) (j k n : ℕ) (log : List Entry) (f : Flight) (ds : List DeviceState) (d : D) (rest : List DeviceState) (u : Trip) (e : D) (rest_then : List DeviceState) where
  abbrev pub End : Type 0
  End = Answered rule plan k n log f ds d rest u e rest_then ⊎ (Gone plan j k (length ds) n log f u × (e ≡ d) × First HearsAny 0 rest rest_then)

  -- the frame f₁ is on its way to it
  abbrev pub ToTalker : Trip → Flight → Option Flight → Trip → Type 0
  ToTalker t f₁ o t₁ = Meets rule k t f₁ o d t₁ e × Journey plan (k + 1) t₁ rest u rest_then

  lost_there : (t t₁ : Trip) (g : Frame) (altered : Bool) (fault : PlanFault) → t ≡ trip (risen_by (length ds) n) log (Some (record f { now = g; altered = altered })) → next_fault plan (risen_by (length ds) n) ≡ Some fault
      → ToTalker t (record f { now = g; altered = altered }) None t₁ → End
  lost_there t t₁ g altered fault is planned to =
      let lost : t₁ ≡ missed (risen (risen_by (length ds) n)) log k (record f { now = g; altered = altered }) = to.0.0 ∙ ap (λ (t : Trip). missed (risen t.crossings) t.log k (record f { now = g; altered = altered })) is in
      let stays = nothing_comes plan (k + 1) t₁ u rest rest_then HearsAny (ap (λ (t : Trip). t.flight) lost) to.1 in
      inr (
        record {
          crossed = length ds;
          party = k;
          on_ring = inl refl;
          is = stays.0 ∙ lost ∙ ap (λ n. trip n (log ++ lost_at f k ∷ []) None) (risen_by_last (length ds) n);
          planned = λ none. let clash = sym planned ∙ none in cc;
        },
        to.0.1,
        stays.1,
      )

  comes_there : (t t₁ : Trip) (g h : Frame) (before altered : Bool) → t ≡ trip (risen_by (length ds) n) log (Some (record f { now = g; altered = before })) → is_data h ≡ true → Arrived plan n (length ds) f h
      → ToTalker t (record f { now = g; altered = before }) (Some (record f { now = h; altered = altered })) t₁ → End
  comes_there t t₁ g h before altered is data_frame came to =
      let on : t₁ ≡ answered (risen_by (suc (length ds)) n) log k (record f { now = h; altered = altered }) to.0.0 =
      to.0.2 ∙ ap (λ (t : Trip). answered (risen t.crossings) t.log k (record f { now = h; altered = altered }) to.0.0) is ∙ ap (λ n. answered n log k (record f { now = h; altered = altered }) to.0.0) (risen_by_last (length ds) n) in
      inl (record { back = h; altered = altered; data_frame = data_frame; came = came; out = to.0.0; takes = to.0.1; journey = subst (λ t. Journey plan (k + 1) t rest u rest_then) on to.1 })

  clean_there : (t t₁ : Trip) (g : Frame) (fault : Option PlanFault) → IsPlan plan → t ≡ trip (risen_by (length ds) n) log (Some (record f { now = g })) → is_data g ≡ true → with_service g ≡ with_service f.now → IsClear plan n (length ds)
      → next_fault plan (risen_by (length ds) n) ≡ fault → ToTalker t (record f { now = g }) (hit fault (record f { now = g })) t₁ → End
  clean_there t t₁ g None is on data_frame same clear none to = comes_there t t₁ g g f.altered f.altered on data_frame (AsItWas same (clear_last plan (length ds) n clear none)) to
  clean_there t t₁ g (Some Lose) is on data_frame same clear planned to = lost_there t t₁ g f.altered Lose on planned to
  clean_there t t₁ g (Some (Alter change)) is on data_frame same clear planned to = by_test (is_data g && not f.altered) refl to
    where
      by_test : (may : Bool) → (is_data g && not f.altered) ≡ may → ToTalker t (record f { now = g }) (if may then Some (record f { now = altered_by change g; altered = true }) else None) t₁ → End
      by_test true test to =
          comes_there t t₁ g (altered_by change g) f.altered true on data_frame
          (Otherwise (λ e. xor_other (byte_of g) change (next_alters plan (risen_by (length ds) n) change is planned) (e ∙ sym (ap byte_of same))) (not-true f.altered (and_parts (is_data g) (not f.altered) test).1) (length ds) (omega arith) (λ none. let clash = sym planned ∙ none in cc)) to
      by_test false test to = lost_there t t₁ g f.altered (Alter change) on planned to

  altered_there : (t t₁ : Trip) (g : Frame) (fault : Option PlanFault) → t ≡ trip (risen_by (length ds) n) log (Some (record f { now = g; altered = true })) → is_data g ≡ true → byte_of g ≢ byte_of f.now → f.altered ≡ false → (hop : ℕ) → hop < length ds
      → next_fault plan (risen_by hop n) ≢ None → next_fault plan (risen_by (length ds) n) ≡ fault → ToTalker t (record f { now = g; altered = true }) (hit fault (record f { now = g; altered = true })) t₁ → End
  altered_there t t₁ g None on data_frame other first hop within met none to = comes_there t t₁ g g true true on data_frame (Otherwise other first hop (omega (arith, within)) met) to
  altered_there t t₁ g (Some Lose) on data_frame other first hop within met planned to = lost_there t t₁ g true Lose on planned to
  altered_there t t₁ g (Some (Alter change)) on data_frame other first hop within met planned to =
      lost_there t t₁ g true (Alter change) on planned (subst (λ may. ToTalker t (record f { now = g; altered = true }) (if may then Some (record f { now = altered_by change g; altered = true }) else None) t₁) (twice (is_data g)) to)
    where
      twice : (data_frame : Bool) → (data_frame && false) ≡ false
      twice true = refl
      twice false = refl

  -- past the devices before it, and to it
  pub to_talker : (t t₁ : Trip) (ds_then : List DeviceState) → IsPlan plan → DataGoes plan j n log f ds t ds_then → Reaches rule plan k t t.flight d t₁ e → Journey plan (k + 1) t₁ rest u rest_then → End
  to_talker t t₁ ds_then is (inl came) reaches journey =
      let m = risen_by (length ds) n in
      let g = record f { now = came.now } in
      let here : Reaches rule plan k t (Some g) d t₁ e = subst (λ flight. Reaches rule plan k t flight d t₁ e) (ap (λ (t : Trip). t.flight) came.is) reaches in
      let meets : Meets rule k t g (hit (next_fault plan m) g) d t₁ e = subst (λ n. Meets rule k t g (hit (next_fault plan n) g) d t₁ e) (ap (λ (t : Trip). t.crossings) came.is) here in
      clean_there t t₁ came.now (next_fault plan m) is came.is came.data_frame came.same came.clear refl (meets, journey)
  to_talker t t₁ ds_then is (inr (inl came)) reaches journey =
      let m = risen_by (length ds) n in
      let g = record f { now = came.now; altered = true } in
      let here : Reaches rule plan k t (Some g) d t₁ e = subst (λ flight. Reaches rule plan k t flight d t₁ e) (ap (λ (t : Trip). t.flight) came.is) reaches in
      let meets : Meets rule k t g (hit (next_fault plan m) g) d t₁ e = subst (λ n. Meets rule k t g (hit (next_fault plan n) g) d t₁ e) (ap (λ (t : Trip). t.crossings) came.is) here in
      altered_there t t₁ came.now (next_fault plan m) came.is came.data_frame came.other came.first came.hop came.within came.planned refl (meets, journey)
  to_talker t t₁ ds_then is (inr (inr lost)) reaches journey =
      let none : t.flight ≡ None = ap (λ (t : Trip). t.flight) lost.is in
      let here : (t₁ ≡ t) × (e ≡ d) = subst (λ flight. Reaches rule plan k t flight d t₁ e) none reaches in
      let stays = nothing_comes plan (k + 1) t₁ u rest rest_then HearsAny (ap (λ (t : Trip). t.flight) here.0 ∙ none) journey in
      inr (record { crossed = lost.reached; party = j + lost.reached; on_ring = inr (omega arith, omega (arith, lost.within)); is = stays.0 ∙ here.0 ∙ lost.is; planned = lost.planned }, here.1, stays.1)
