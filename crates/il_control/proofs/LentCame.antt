-- Which frames come to the drive while a second controller polls, and what they leave of it.
use Rattle.std.proofs.Common.{◌≡◌, ◌∙◌, ◌++◌, ◌&&◌, ◌||◌, ◌==◌, ◌⊎◌, inl, inr, ⊎_elim, ℕ, zero, suc, Bool, true, false, not, List, [], ◌∷◌, None, map, refl, sym, ap, subst}
use Rattle.std.specs.List.{list_all}
use Rattle.std.proofs.lemmas.Bool.{and_from, and_parts, not-true}
use Rattle.il_frames.specs.declared.frame.Class.{Class}
use Rattle.il_frames.specs.declared.frame.Class.TheVariants as class
use Rattle.il_frames.specs.declared.frame.Frame.{Frame}
use Rattle.il_frames.specs.declared.entry.Entry.{Entry}
use Rattle.il_frames.specs.declared.entry.Outcome.{Outcome}
use Rattle.il_frames.specs.declared.message.Message.{Message}
use Rattle.il_frames.specs.Frames.{byte_of, class_of, is_data, is_data_class, same_but_service}
use Rattle.il_frames.specs.Messages.{message_at, message_of}
use Rattle.il_frames.specs.NamedFrames.{entry}
use Rattle.il_poll.specs.Service.{status_byte_of}
use Rattle.il_device.specs.declared.device.Out.{Out}
use Rattle.il_device.specs.declared.device.Out.TheVariants.{Pass, Source}
use Rattle.il_device.specs.Roles.{is_data_message}
use Rattle.il_device.specs.Takes.{eto}
use Rattle.il_ports.specs.Media.{MediumView}
use Rattle.il_drive.specs.declared.mode.Start.{Start}
use Rattle.il_drive.specs.declared.mode.Start.TheVariants as start
use Rattle.il_drive.specs.State.{DriveState, DriveView, status_of}
use Rattle.il_drive.specs.Runs.{Ran}
use Rattle.il_drive.proofs.ExchangesStill.{NoneListens, deaf-ran, makes_listener}
use Rattle.il_drive.proofs.Mild.{AllMildFor, IsMildFor, OneByte, Says, StatusLeft, is_mild_for, mild_ran, mild_says}
use Rattle.loop_model.specs.Exchanges.{Echo, echoed, is_echo}
use Rattle.loop_model.specs.Reach.{brings_to}
use Rattle.il_ring.specs.Journeys.{is_exact}
use Rattle.il_control.specs.Brought.{ComesAs, MayComeAs, Brought, BroughtIf, CutBrought, is_auto_address}
use Rattle.il_control.specs.Receives.{IsSpoken, AllSpoken, own_frames}

-- ---- frames

-- the message asks the drive for no more than this, and has nobody listen
abbrev pub quiet_message : Start → Message → Bool
quiet_message what m = is_mild_for what m && not (makes_listener m)

-- a data frame, or such a message that goes on as it is
abbrev pub quiet_frame : Start → Frame → Bool
quiet_frame what f = is_data f || (is_exact (message_of f) && (not (is_auto_address (message_of f)) && quiet_message what (message_of f)))

abbrev pub quiet_entry : Start → Entry → Bool
quiet_entry what e = quiet_frame what e.frame

abbrev pub AllQuiet : Start → List Frame → Type 0
AllQuiet what [] = Unit {0}
AllQuiet what (g ∷ gs) = (quiet_message what (message_of g) ≡ true) × AllQuiet what gs

-- the message is no data, goes on as it is, asks for the status at most, and has nobody listen
abbrev pub plain_message : Message → Bool
plain_message m = is_exact m && (not (is_auto_address m) && (quiet_message start.Status m && not (is_data_message m)))

pub quiet_mild : (what : Start) (gs : List Frame) → AllQuiet what gs → AllMildFor what gs
quiet_mild what [] all = tt
quiet_mild what (g ∷ gs) all = ((and_parts (is_mild_for what (message_of g)) (not (makes_listener (message_of g))) all.0).0, quiet_mild what gs all.1)

pub quiet_listens : (what : Start) (gs : List Frame) → AllQuiet what gs → NoneListens gs
quiet_listens what [] all = tt
quiet_listens what (g ∷ gs) all = (not-true (makes_listener (message_of g)) (and_parts (is_mild_for what (message_of g)) (not (makes_listener (message_of g))) all.0).1, quiet_listens what gs all.1)

module _ (what : Start) where
  data_quiet : (k : Class) (b : ℕ) → is_data_class k ≡ true → quiet_message what (message_at k b) ≡ true
  data_quiet class.Dab b h = refl
  data_quiet class.Dsr b h = refl
  data_quiet class.End b h = refl
  data_quiet class.Esr b h = refl
  data_quiet _ b h = cc

  may_quiet : (q : ℕ) (f g : Frame) → quiet_frame what f ≡ true → MayComeAs q f g → quiet_message what (message_of g) ≡ true
  may_quiet q f g quiet comes = by (is_data f) refl
    where
      rest : Bool
      rest = is_exact (message_of f) && (not (is_auto_address (message_of f)) && quiet_message what (message_of f))

      by : (b : Bool) → is_data f ≡ b → quiet_message what (message_of g) ≡ true
      by true h = data_quiet (class_of g) (byte_of g) (comes.data_frame h)
      by false h =
          let all : rest ≡ true = sym (ap (λ b. b || rest) h) ∙ quiet in
          let one = and_parts (is_exact (message_of f)) (not (is_auto_address (message_of f)) && quiet_message what (message_of f)) all in
          let two = and_parts (not (is_auto_address (message_of f))) (quiet_message what (message_of f)) one.1 in
          ap (λ f. quiet_message what (message_of f)) (comes.other one.0 (not-true (is_auto_address (message_of f)) two.0)) ∙ two.1

  comes_quiet : (q : ℕ) (f g : Frame) → quiet_frame what f ≡ true → ComesAs q f g → quiet_message what (message_of g) ≡ true
  comes_quiet q f g quiet comes = may_quiet q f g quiet (record { data_frame = λ is. (comes.data_frame is).0; address = comes.address; poll = comes.poll; other = comes.other })

  -- frames of a talker
  pub spoken_quiet : (gs : List Frame) → AllSpoken gs → AllQuiet what gs
  spoken_quiet [] all = tt
  spoken_quiet (g ∷ gs) all = (by all.0, spoken_quiet gs all.1)
    where
      by : IsSpoken g → quiet_message what (message_of g) ≡ true
      by (inl data_frame) = data_quiet (class_of g) (byte_of g) data_frame
      by (inr (inl is)) = ap (λ g. quiet_message what (message_of g)) is
      by (inr (inr (inl is))) = ap (λ g. quiet_message what (message_of g)) is
      by (inr (inr (inr is))) = ap (λ g. quiet_message what (message_of g)) is

  -- those that were brought
  pub brought_quiet : (k q : ℕ) (es : List Entry) (gs : List Frame) → list_all (quiet_entry what) es ≡ true → Brought k q es gs → AllQuiet what gs
  brought_quiet k q [] gs quiet came = subst (AllQuiet what) (sym came) tt
  brought_quiet k q (e ∷ es) gs quiet came =
      let both = and_parts (quiet_entry what e) (list_all (quiet_entry what) es) quiet in
      by (brings_to k q e) gs came both.0 (λ gs came. brought_quiet k q es gs both.1 came)
    where
      by : (b : Bool) (gs : List Frame) → BroughtIf b (ComesAs q e.frame) (Brought k q es) gs → quiet_entry what e ≡ true → ((gs : List Frame) → Brought k q es gs → AllQuiet what gs) → AllQuiet what gs
      by false gs came here rest = rest gs came
      by true [] came here rest = absurd came
      by true (g ∷ gs) came here rest = (comes_quiet q e.frame g here came.0, rest gs came.1)

  pub cut_quiet : (k q n : ℕ) (es : List Entry) (gs : List Frame) → list_all (quiet_entry what) es ≡ true → CutBrought k q es n gs → AllQuiet what gs
  cut_quiet k q n [] gs quiet came = subst (AllQuiet what) (sym came) tt
  cut_quiet k q zero (e ∷ es) gs quiet came =
      let both = and_parts (quiet_entry what e) (list_all (quiet_entry what) es) quiet in
      ⊎_elim (λ nothing. subst (AllQuiet what) (sym nothing) tt) (λ one. subst (AllQuiet what) (sym one.2) (may_quiet q e.frame one.0 both.0 one.1, tt)) came
  cut_quiet k q (suc n) (e ∷ es) gs quiet came =
      let both = and_parts (quiet_entry what e) (list_all (quiet_entry what) es) quiet in
      by (brings_to k q e) gs came both.0 (λ gs came. cut_quiet k q n es gs both.1 came)
    where
      by : (b : Bool) (gs : List Frame) → BroughtIf b (ComesAs q e.frame) (CutBrought k q es n) gs → quiet_entry what e ≡ true → ((gs : List Frame) → CutBrought k q es n gs → AllQuiet what gs) → AllQuiet what gs
      by false gs came here rest = rest gs came
      by true [] came here rest = absurd came
      by true (g ∷ gs) came here rest = (comes_quiet q e.frame g here came.0, rest gs came.1)

  -- the data frames of a talker, and what follows them
  pub data_quiet_frame : (f : Frame) → is_data f ≡ true → quiet_frame what f ≡ true
  data_quiet_frame f bytes = ap (λ b. b || (is_exact (message_of f) && (not (is_auto_address (message_of f)) && quiet_message what (message_of f)))) bytes

  pub echo_quiet : (d : Echo) → is_echo d ≡ true → quiet_frame what d.sent ≡ true
  echo_quiet d echo = data_quiet_frame d.sent (and_parts (is_data d.sent) (same_but_service d.sent d.back) echo).0

  pub echoes_quiet : (p : ℕ) (ds : List Echo) (rest : List Entry) → list_all is_echo ds ≡ true → list_all (quiet_entry what) rest ≡ true → list_all (quiet_entry what) (map (echoed p) ds ++ rest) ≡ true
  echoes_quiet p [] rest legal more = more
  echoes_quiet p (d ∷ ds) rest legal more =
      let both = and_parts (is_echo d) (list_all is_echo ds) legal in
      and_from (quiet_frame what d.sent) (list_all (quiet_entry what) (map (echoed p) ds ++ rest)) (echo_quiet d both.0) (echoes_quiet p ds rest both.1 more)

-- of a plain message: it came once, or not
pub plain_came : (k q s : ℕ) (f : Frame) (o : Outcome) (gs : List Frame) → plain_message (message_of f) ≡ true → Brought k q (entry s f o ∷ []) gs → (gs ≡ []) ⊎ (gs ≡ f ∷ [])
plain_came k q s f o gs plain came = by (brings_to k q (entry s f o)) gs came
  where
    one : (is_exact (message_of f) ≡ true) × ((not (is_auto_address (message_of f)) && (quiet_message start.Status (message_of f) && not (is_data_message (message_of f)))) ≡ true)
    one = and_parts (is_exact (message_of f)) (not (is_auto_address (message_of f)) && (quiet_message start.Status (message_of f) && not (is_data_message (message_of f)))) plain

    two : (not (is_auto_address (message_of f)) ≡ true) × ((quiet_message start.Status (message_of f) && not (is_data_message (message_of f))) ≡ true)
    two = and_parts (not (is_auto_address (message_of f))) (quiet_message start.Status (message_of f) && not (is_data_message (message_of f))) one.1

    by : (b : Bool) (gs : List Frame) → BroughtIf b (ComesAs q f) (Brought k q []) gs → (gs ≡ []) ⊎ (gs ≡ f ∷ [])
    by false gs came = inl came
    by true [] came = absurd came
    by true (g ∷ gs) came = inr (ap (λ g. g ∷ gs) (came.0.other one.0 (not-true (is_auto_address (message_of f)) two.0)) ∙ ap (λ gs. f ∷ gs) came.1)

pub plain_quiet : (m : Message) → plain_message m ≡ true → (quiet_message start.Status m ≡ true) × (is_data_message m ≡ false)
plain_quiet m plain =
    let one = and_parts (is_exact m) (not (is_auto_address m) && (quiet_message start.Status m && not (is_data_message m))) plain in
    let two = and_parts (not (is_auto_address m)) (quiet_message start.Status m && not (is_data_message m)) one.1 in
    let three = and_parts (quiet_message start.Status m) (not (is_data_message m)) two.1 in
    (three.0, not-true (is_data_message m) three.1)

pub plain_quiet_frame : (f : Frame) → plain_message (message_of f) ≡ true → quiet_frame start.Status f ≡ true
plain_quiet_frame f plain =
    let m = message_of f in
    let one = and_parts (is_exact m) (not (is_auto_address m) && (quiet_message start.Status m && not (is_data_message m))) plain in
    let two = and_parts (not (is_auto_address m)) (quiet_message start.Status m && not (is_data_message m)) one.1 in
    let three = and_parts (quiet_message start.Status m) (not (is_data_message m)) two.1 in
    by (is_data f) (and_from (is_exact m) _ one.0 (and_from (not (is_auto_address m)) (quiet_message start.Status m) two.0 three.0))
  where
    by : (b : Bool) → {c : Bool} → c ≡ true → (b || c) ≡ true
    by true h = refl
    by false h = h

-- ---- what they leave of the drive

-- its medium and its status; if it did not listen it does not listen then
pub record StaysSo {M : Type 0} (v w : DriveView M) : Type 0 where
  pub medium : w.medium ≡ v.medium
  pub status : status_of w.state ≡ status_of v.state
  pub mild : IsMildFor start.Status w.state
  pub deaf : v.state.interface.roles.listens ≡ false → w.state.interface.roles.listens ≡ false

says_other : (m : Message) (s t : DriveState) (out : Out) → is_data_message m ≡ false → Says m s out t → status_of t ≡ status_of s
says_other m s t (Pass g) other says = says
says_other m s t (Source g) other (inl tells) = tells.1
says_other m s t (Source g) other (inr (inl ended)) = let clash : false ≡ true = sym other ∙ ended.1 in cc
says_other m s t (Source g) other (inr (inr broke)) = broke.1

module _ {M : Type 0} (view : M → MediumView) where
  -- a plain message, or none
  pub plain_stays : (f : Frame) (gs : List Frame) (outs : List Out) (v w : DriveView M) → plain_message (message_of f) ≡ true → (gs ≡ []) ⊎ (gs ≡ f ∷ []) → IsMildFor start.Status v.state → Ran view v gs outs w → StaysSo v w
  plain_stays f gs outs v w plain (inl none) mild ran = nothing outs (subst (λ gs. Ran view v gs outs w) none ran)
    where
      nothing : (outs : List Out) → Ran view v [] outs w → StaysSo v w
      nothing [] ran = subst (StaysSo v) (sym ran) (record { medium = refl; status = refl; mild = mild; deaf = λ d. d })
      nothing (out ∷ outs) ran = absurd ran
  plain_stays f gs outs v w plain (inr one) mild ran = some outs (subst (λ gs. Ran view v gs outs w) one ran)
    where
      kind : (quiet_message start.Status (message_of f) ≡ true) × (is_data_message (message_of f) ≡ false)
      kind = plain_quiet (message_of f) plain

      all : AllQuiet start.Status (f ∷ [])
      all = (kind.0, tt)

      same : (out : Out) (outs : List Out) → Ran view v (f ∷ []) (out ∷ outs) w → status_of w.state ≡ status_of v.state
      same out (x ∷ outs) ran = absurd ran.2
      same out [] ran =
          ap (λ (u : DriveView M). status_of u.state) ran.2
          ∙ says_other (message_of f) v.state ran.0.state out kind.1 (mild_says view f out v ran.0 (quiet_mild start.Status (f ∷ []) all).0 mild ran.1)

      some : (outs : List Out) → Ran view v (f ∷ []) outs w → StaysSo v w
      some [] ran = absurd ran
      some (out ∷ outs) ran =
          let stays = mild_ran view (f ∷ []) (out ∷ outs) v w mild (quiet_mild start.Status (f ∷ []) all) ran in
          record {
            medium = stays.medium;
            status = same out outs ran;
            mild = stays.mild;
            deaf = λ deaf. deaf-ran view (f ∷ []) (out ∷ outs) v w deaf (quiet_listens start.Status (f ∷ []) all) ran;
          }

  -- Data frames and what ends them, while it has no frame of its own.
  pub silent_stays : (gs : List Frame) (outs : List Out) (v w : DriveView M) → ((what : Start) → AllQuiet what gs) → v.state.interface.own ≡ None → IsMildFor start.Status v.state → Ran view v gs outs w → StaysSo v w
  silent_stays gs outs v w all silent mild ran =
      let none : OneByte start.Data v.state.interface.own v.state.begun v.state.interface.roles.talks = subst (λ own. OneByte start.Data own v.state.begun v.state.interface.roles.talks) (sym silent) tt in
      let stays = mild_ran view gs outs v w mild (quiet_mild start.Status gs (all start.Status)) ran in
      let still = mild_ran view gs outs v w (record { deaf = mild.deaf; sends = none }) (quiet_mild start.Data gs (all start.Data)) ran in
      record {
        medium = stays.medium;
        status = still.status;
        mild = stays.mild;
        deaf = λ deaf. deaf-ran view gs outs v w deaf (quiet_listens start.Status gs (all start.Status)) ran;
      }

  -- ---- if it is the talker

  then_zero : (a b : ℕ) → a ≡ 0 → StatusLeft start.Status a b → b ≡ 0
  then_zero a b none (inl same) = same ∙ none
  then_zero a b none (inr nothing) = nothing

  head_is : (g h : Frame) (xs ys : List Frame) → g ∷ xs ≡ h ∷ ys → g ≡ h
  head_is g h xs ys same = ap (λ l. elim l [ [] ↦ g | x ∷ rest ↦ x ]) same

  tail_is : (g h : Frame) (xs ys : List Frame) → g ∷ xs ≡ h ∷ ys → xs ≡ ys
  tail_is g h xs ys same = ap (λ l. elim l [ [] ↦ xs | x ∷ rest ↦ rest ]) same

  -- it sent nothing of its own: its status stays
  pub passed_status : (gs : List Frame) (outs : List Out) (v w : DriveView M) → AllMildFor start.Status gs → own_frames outs ≡ [] → IsMildFor start.Status v.state → Ran view v gs outs w → status_of w.state ≡ status_of v.state
  passed_status [] [] v w all own mild ran = ap (λ (u : DriveView M). status_of u.state) ran
  passed_status [] (out ∷ outs) v w all own mild ran = absurd ran
  passed_status (f ∷ fs) [] v w all own mild ran = absurd ran
  passed_status (f ∷ fs) (Source g ∷ outs) v w all own mild ran = cc
  passed_status (f ∷ fs) (Pass g ∷ outs) v w all own mild ran =
      let says = mild_says view f (Pass g) v ran.0 all.0 mild ran.1 in
      let first = mild_ran view (f ∷ []) (Pass g ∷ []) v ran.0 mild (all.0, tt) (ran.0, ran.1, refl) in
      passed_status fs outs ran.0 w all.1 own first.mild ran.2 ∙ says

  -- it sent ETO: its status is 0 then
  pub ended_status : (gs : List Frame) (outs : List Out) (v w : DriveView M) → AllMildFor start.Status gs → own_frames outs ≡ eto ∷ [] → IsMildFor start.Status v.state → Ran view v gs outs w → status_of w.state ≡ 0
  ended_status [] [] v w all own mild ran = cc
  ended_status [] (out ∷ outs) v w all own mild ran = absurd ran
  ended_status (f ∷ fs) [] v w all own mild ran = absurd ran
  ended_status (f ∷ fs) (Pass g ∷ outs) v w all own mild ran =
      let first = mild_ran view (f ∷ []) (Pass g ∷ []) v ran.0 mild (all.0, tt) (ran.0, ran.1, refl) in
      ended_status fs outs ran.0 w all.1 own first.mild ran.2
  ended_status (f ∷ fs) (Source g ∷ outs) v w all own mild ran =
      let says = mild_says view f (Source g) v ran.0 all.0 mild ran.1 in
      let first = mild_ran view (f ∷ []) (Source g ∷ []) v ran.0 mild (all.0, tt) (ran.0, ran.1, refl) in
      let is : g ≡ eto = head_is g eto (own_frames outs) [] own in
      let rest = mild_ran view fs outs ran.0 w first.mild all.1 ran.2 in
      then_zero (status_of ran.0.state) (status_of w.state) (by is says) rest.status
    where
      by : g ≡ eto → Says (message_of f) v.state (Source g) ran.0.state → status_of ran.0.state ≡ 0
      by is (inl tells) = let clash : true ≡ false = ap is_data (sym tells.0 ∙ is) in cc
      by is (inr (inl ended)) = ended.2
      by is (inr (inr broke)) = let clash : false ≡ true = ap (λ f. byte_is f) (sym broke.0 ∙ is) in cc
        where
          byte_is : Frame → Bool
          byte_is f = byte_of f == 0x40

  -- it sent a data frame: that shows its status, which stays
  pub told_status : (gs : List Frame) (outs : List Out) (v w : DriveView M) (b : Frame) → AllMildFor start.Status gs → own_frames outs ≡ b ∷ [] → is_data b ≡ true → IsMildFor start.Status v.state → Ran view v gs outs w → byte_of b ≡ status_byte_of (status_of w.state)
  told_status [] [] v w b all own bytes mild ran = cc
  told_status [] (out ∷ outs) v w b all own bytes mild ran = absurd ran
  told_status (f ∷ fs) [] v w b all own bytes mild ran = absurd ran
  told_status (f ∷ fs) (Pass g ∷ outs) v w b all own bytes mild ran =
      let first = mild_ran view (f ∷ []) (Pass g ∷ []) v ran.0 mild (all.0, tt) (ran.0, ran.1, refl) in
      told_status fs outs ran.0 w b all.1 own bytes first.mild ran.2
  told_status (f ∷ fs) (Source g ∷ outs) v w b all own bytes mild ran =
      let says = mild_says view f (Source g) v ran.0 all.0 mild ran.1 in
      let first = mild_ran view (f ∷ []) (Source g ∷ []) v ran.0 mild (all.0, tt) (ran.0, ran.1, refl) in
      let is : g ≡ b = head_is g b (own_frames outs) [] own in
      let rest = passed_status fs outs ran.0 w all.1 (tail_is g b (own_frames outs) [] own) first.mild ran.2 in
      by is says ∙ ap status_byte_of (sym rest)
    where
      by : g ≡ b → Says (message_of f) v.state (Source g) ran.0.state → byte_of b ≡ status_byte_of (status_of ran.0.state)
      by is (inl tells) = ap byte_of (sym is ∙ tells.0) ∙ ap status_byte_of (sym tells.1)
      by is (inr (inl ended)) = let clash : false ≡ true = ap is_data (sym ended.0 ∙ is) ∙ bytes in cc
      by is (inr (inr broke)) = let clash : false ≡ true = ap is_data (sym broke.0 ∙ is) ∙ bytes in cc
