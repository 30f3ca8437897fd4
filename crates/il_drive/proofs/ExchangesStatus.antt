-- The status poll as one exchange, and what ends a talker.
use Rattle.std.proofs.Common.{◌≡◌, ◌≤◌, ◌++◌, ℕ, true, false, List, [], ◌∷◌, refl, ap, subst, ◌∙◌}
use Rattle.std.specs.Prelude.{Some, None}
use Rattle.il_ports.specs.Media.{MediumView}
use Rattle.il_frames.specs.declared.frame.Class.TheVariants as class
use Rattle.il_frames.specs.declared.frame.Frame.{Frame}
use Rattle.il_frames.specs.declared.message.Message.{Message}
use Rattle.il_frames.specs.declared.message.Message.TheVariants as msg
use Rattle.il_frames.specs.Frames.{framed, is_data, same_but_service}
use Rattle.il_poll.specs.Service.{status_byte_of}
use Rattle.il_device.specs.declared.device.Out.{Out}
use Rattle.il_device.specs.declared.device.Out.TheVariants.{Pass, Source}
use Rattle.il_device.specs.declared.interface.OwnFrame.{OwnFrame}
use Rattle.il_device.specs.Roles.{own_after}
use Rattle.il_device.specs.Takes.{just_sent, eto}
use Rattle.il_drive.specs.declared.mode.Mode.TheVariants as mode
use Rattle.il_drive.specs.declared.mode.Start.TheVariants as start
use Rattle.il_drive.specs.State.{DriveState, DriveView, status_of}
use Rattle.il_drive.specs.Steps.{Now, Did}
use Rattle.il_drive.specs.Table as table
use Rattle.il_drive.specs.Runs.{Ran}
use Rattle.il_drive.proofs.Sending.{sst, step_status, step_ends}
use Rattle.il_drive.proofs.Reading.{nrd}
use Rattle.il_drive.specs.Resting.{IsAtRest}
use Rattle.il_drive.proofs.Exchanges.{all_pass, Stance, stance_of, stance_all, goes_by, parts}
use Rattle.il_drive.proofs.ExchangesAddressed.{unl, unt, rfc, tad, talker, bystander, turned, goes_talking, rests_at, stance_of-data}

module _ {M : Type 0} (view : M → MediumView) where
  -- ---- one frame by an equation of its step

  pub record Came (s : DriveState) (answers : List Out) (outs : List Out) (m : M) (w : DriveView M) : Type 0 where
    pub state : w.state ≡ s
    pub answer : outs ≡ answers
    pub medium : w.medium ≡ m

  pub comes : (f : Frame) (t : DriveState) (answer : Out) (outs : List Out) (v w : DriveView M) → table.drive_step (view v.medium).record_count v.state f ≡ Now (t, answer)
      → Ran view v (f ∷ []) outs w → Came t (answer ∷ []) outs v.medium w
  comes f t answer [] v w is ran = absurd ran
  comes f t answer (out ∷ other ∷ outs) v w is ran = absurd ran.2
  comes f t answer (out ∷ []) v w is ran =
      let u = ran.0 in
      let did : Did view (Now (t, answer)) (u.state, out) v.medium u.medium = subst (λ step. Did view step (u.state, out) v.medium u.medium) is ran.1 in
      record {
        state = ap (λ (v : DriveView M). v.state) ran.2 ∙ ap (λ x. x.0) did.0;
        answer = ap (λ x. x.1 ∷ []) did.0;
        medium = ap (λ (v : DriveView M). v.medium) ran.2 ∙ did.1;
      }

  -- ---- the status goes out

  abbrev pub status_frame : DriveState → Frame
  status_frame s = framed class.Dab (status_byte_of (status_of s))

  -- the drive talks, and its status is on the loop
  abbrev pub telling : ℕ → Stance → Stance
  telling p σ = record (turned (talker p) σ) { own = Some (just_sent (framed class.Dab (status_byte_of σ.status)) true); begun = start.Status }

  pub record Tells (p : ℕ) (outs : List Out) (v w : DriveView M) : Type 0 where
    pub answers : outs ≡ Pass unl ∷ Pass rfc ∷ Pass (tad p) ∷ Pass rfc ∷ Source (status_frame v.state) ∷ []
    pub stance : stance_of w.state ≡ telling p (stance_of v.state)
    pub medium : w.medium ≡ v.medium

  pub tells : (p : ℕ) (outs : List Out) (v w : DriveView M) → p ≤ 30 → v.state.interface.roles.address ≡ Some p → v.state.interface.roles.talks ≡ false
      → Ran view v (unl ∷ rfc ∷ tad p ∷ rfc ∷ sst ∷ []) outs w → Tells p outs v w
  tells p outs v w le at mute ran =
      let part = parts view (unl ∷ rfc ∷ tad p ∷ rfc ∷ []) (sst ∷ []) outs v w ran in
      let u = part.middle in
      let went = goes_talking view p [] [] part.first v u le at mute tt refl refl part.before in
      let told = comes sst _ _ part.more u w (step_status (view u.medium).record_count u.state (ap (λ (σ : Stance). σ.roles.talks) went.0) (ap (λ (σ : Stance). σ.own) went.0)) part.behind in
      record {
        answers = part.answers ∙ (λ i. went.2 i ++ told.answer i) ∙ ap (λ (σ : Stance). Pass unl ∷ Pass rfc ∷ Pass (tad p) ∷ Pass rfc ∷ Source (framed class.Dab (status_byte_of σ.status)) ∷ []) went.0;
        stance = ap stance_of told.state ∙ ap (λ (σ : Stance). record σ { own = Some (just_sent (framed class.Dab (status_byte_of σ.status)) true); begun = start.Status }) went.0;
        medium = told.medium ∙ went.1;
      }

  -- ---- after the end of a transmission

  abbrev pub ends_talking : List Message
  ends_talking = msg.Unt ∷ msg.Rfc ∷ []

  untalked : (p : ℕ) (σ : Stance) → σ.roles ≡ talker p → stance_all ends_talking σ ≡ turned (bystander p) σ
  untalked p σ is = ap (λ r. stance_all ends_talking (record σ { roles = r })) is

  -- UNT, RFC: the talker talks no more
  pub untalks : (p : ℕ) (outs : List Out) (v w : DriveView M) → v.state.interface.roles ≡ talker p → Ran view v (unt ∷ rfc ∷ []) outs w
      → (stance_of w.state ≡ turned (bystander p) (stance_of v.state)) × (w.medium ≡ v.medium) × (outs ≡ Pass unt ∷ Pass rfc ∷ [])
  untalks p outs v w is ran =
      let went = goes_by view ends_talking (unt ∷ rfc ∷ []) outs v w (refl, (refl, tt)) refl ran in
      (went.stance ∙ untalked p (stance_of v.state) is, went.medium, all_pass ends_talking (unt ∷ rfc ∷ []) outs refl went.answers)

  -- ---- the status is told

  pub record HasTold (p : ℕ) (outs : List Out) (v w : DriveView M) : Type 0 where
    pub answers : outs ≡ Pass nrd ∷ Source eto ∷ Pass unt ∷ Pass rfc ∷ []
    pub stance : stance_of w.state ≡ record (turned (bystander p) (stance_of v.state)) { status = 0 }
    pub rests : IsAtRest p w.state
    pub medium : w.medium ≡ v.medium

  -- NRD, the right echo of the status, UNT: it is 0 then, and the drive is at rest
  pub is_told : (p : ℕ) (byte : ℕ) (f : Frame) (outs : List Out) (v w : DriveView M) → v.state.interface.roles ≡ talker p → v.state.begun ≡ start.Status
      → v.state.interface.own ≡ Some (just_sent (framed class.Dab byte) true) → is_data f ≡ true → same_but_service (framed class.Dab byte) f ≡ true
      → Ran view v (nrd ∷ f ∷ unt ∷ rfc ∷ []) outs w → HasTold p outs v w
  is_told p byte f outs v w talks by own h right ran =
      let heard = parts view (nrd ∷ []) (f ∷ unt ∷ rfc ∷ []) outs v w ran in
      let u = heard.middle in
      let went = goes_by view (msg.Nrd ∷ []) (nrd ∷ []) heard.first v u (refl, tt) refl heard.before in
      let echoed = parts view (f ∷ []) (unt ∷ rfc ∷ []) heard.more u w heard.behind in
      let x = echoed.middle in
      let stopped : OwnFrame = record { frame = framed class.Dab byte; last = true; stopped = true } in
      let on_loop : u.state.interface.own ≡ Some stopped = ap (λ (σ : Stance). σ.own) went.stance ∙ ap (λ own. own_after v.state.interface.roles own msg.Nrd) own in
      let over = comes f _ _ echoed.first u x (step_ends (view u.medium).record_count u.state f stopped on_loop h right refl) echoed.before in
      let begun : u.state.begun ≡ start.Status = ap (λ (σ : Stance). σ.begun) went.stance ∙ by in
      let stance : stance_of x.state ≡ record (stance_of v.state) { status = 0; own = None; mode = mode.Rest } =
      ap stance_of over.state ∙ ap (λ b. record (stance_of (table.acknowledged b (table.behind_effect f u.state))) { own = None; mode = mode.Rest }) begun
      ∙ ap (λ (σ : Stance). record σ { status = 0; own = None; mode = mode.Rest }) (stance_of-data u.state f h ∙ went.stance) in
      let ends = untalks p echoed.more x w (ap (λ (σ : Stance). σ.roles) stance ∙ talks) echoed.behind in
      let last : stance_of w.state ≡ record (turned (bystander p) (stance_of v.state)) { status = 0 } = ends.0 ∙ ap (turned (bystander p)) stance in
      record {
        answers = heard.answers ∙ (λ i. all_pass (msg.Nrd ∷ []) (nrd ∷ []) heard.first refl went.answers i ++ (echoed.answers ∙ (λ j. over.answer j ++ ends.2 j)) i);
        stance = last;
        rests = rests_at p w.state _ last refl refl refl refl refl;
        medium = ends.1 ∙ over.medium ∙ went.medium;
      }

  -- ---- all of it

  pub record HasPolled (p : ℕ) (outs : List Out) (v w : DriveView M) : Type 0 where
    pub answers : outs ≡ Pass unl ∷ Pass rfc ∷ Pass (tad p) ∷ Pass rfc ∷ Source (status_frame v.state) ∷ Pass nrd ∷ Source eto ∷ Pass unt ∷ Pass rfc ∷ []
    pub stance : stance_of w.state ≡ record (turned (bystander p) (stance_of v.state)) { status = 0; begun = start.Status }
    pub rests : IsAtRest p w.state
    pub medium : w.medium ≡ v.medium

  -- the status that stood is sent, and it is 0 then
  pub polls : (p : ℕ) (f : Frame) (outs : List Out) (v w : DriveView M) → p ≤ 30 → v.state.interface.roles.address ≡ Some p → v.state.interface.roles.talks ≡ false
      → is_data f ≡ true → same_but_service (status_frame v.state) f ≡ true
      → Ran view v (unl ∷ rfc ∷ tad p ∷ rfc ∷ sst ∷ nrd ∷ f ∷ unt ∷ rfc ∷ []) outs w → HasPolled p outs v w
  polls p f outs v w le at mute h right ran =
      let part = parts view (unl ∷ rfc ∷ tad p ∷ rfc ∷ sst ∷ []) (nrd ∷ f ∷ unt ∷ rfc ∷ []) outs v w ran in
      let u = part.middle in
      let sends = tells p part.first v u le at mute part.before in
      let told = is_told p (status_byte_of (status_of v.state)) f part.more u w (ap (λ (σ : Stance). σ.roles) sends.stance) (ap (λ (σ : Stance). σ.begun) sends.stance) (ap (λ (σ : Stance). σ.own) sends.stance) h right part.behind in
      record {
        answers = part.answers ∙ (λ i. sends.answers i ++ told.answers i);
        stance = told.stance ∙ ap (λ (σ : Stance). record (turned (bystander p) σ) { status = 0 }) sends.stance;
        rests = told.rests;
        medium = told.medium ∙ sends.medium;
      }
