-- What the log of exchanges of the host says of who controls the loop: the host keeps control, and takes it first where the loop is not
-- ready.
use Rattle.std.proofs.Common.{◌≡◌, ◌∙◌, ◌++◌, ◌==◌, ℕ, zero, suc, true, false, List, [], ◌∷◌, flat_map, Some, refl, sym, ap, subst, eqb-true}
use Rattle.std.proofs.lemmas.Bool.{and_from, and_parts}
use Rattle.il_frames.specs.declared.frame.Class.{Class}
use Rattle.il_frames.specs.declared.frame.Class.TheVariants as class
use Rattle.il_frames.specs.declared.frame.Frame.{Frame}
use Rattle.il_frames.specs.declared.entry.Entry.{Entry}
use Rattle.il_frames.specs.Frames.{same_class}
use Rattle.il_frames.specs.Messages.{message_at, message_of}
use Rattle.il_frames.specs.NamedFrames.{ifc, is_frame, is_ifc}
use Rattle.il_ring.specs.declared.plan.Planned.{Planned}
use Rattle.loop_model.specs.Exchanges.{Break, FrameLost, HostAltered, TalkerAltered, Command, Address, Send, Receive, Identify, Piece, Whole, Cut, cut_at, commanded, piece_entries}
use Rattle.loop_model.specs.Leading.{controller_after}
use Rattle.loop_model.proofs.LeadingLaws.{controller_after-no_lend, has_no_lend-reading}
use Rattle.host_model.specs.Requests.{is_of_volume}
use Rattle.host_model.specs.LoopStates.{LoopState, ring_of}
use Rattle.host_model.specs.Courses.{Due, addresses_due, begins_with, cleared_first, clears_due, course_of, keeps_course, keeps_to}
use Rattle.host_model.specs.Steps.{Event, Exchanged, takes_back_first}

-- a frame that is IFC is one by its message
by_class : (c : Class) (byte : ℕ) → same_class class.Cmd c ≡ true → byte ≡ 0x90 → is_ifc (message_at c byte) ≡ true
by_class class.Cmd byte same is = ap (λ b. is_ifc (message_at class.Cmd b)) is
by_class c byte same is = cc

ifc_message : (f : Frame) → is_frame ifc f ≡ true → is_ifc (message_of f) ≡ true
ifc_message f is =
    let parts = and_parts (same_class class.Cmd f.class) (0x90 == f.byte) is in
    by_class f.class f.byte parts.0 (sym (eqb-true 0x90 f.byte parts.1))

-- an IFC of the host first, whole or broken off
cut_ifc : (f : Frame) (n : ℕ) (b : Break) (more : List Entry) → is_frame ifc f ≡ true → takes_back_first (cut_at (commanded 0 f) n b ++ more) ≡ true
cut_ifc f zero (FrameLost q) more is = ifc_message f is
cut_ifc f zero (HostAltered g) more is = ifc_message f is
cut_ifc f zero (TalkerAltered g end) more is = ifc_message f is
cut_ifc f (suc n) b more is = ifc_message f is

-- exchanges that are to begin with the addressing do so
pub first_back : (z : LoopState) (more : List Due) (pieces : List Piece) → begins_with (addresses_due z ++ more) pieces ≡ true → takes_back_first (flat_map (piece_entries 0) pieces) ≡ true
first_back z more [] begins = cc
first_back z more (Whole (Command f) ∷ pieces) begins = ifc_message f (and_parts (is_frame ifc f) _ begins).0
first_back z more (Whole (Address devices) ∷ pieces) begins = cc
first_back z more (Whole (Send a number ds) ∷ pieces) begins = cc
first_back z more (Whole (Receive a number start answer) ∷ pieces) begins = cc
first_back z more (Whole (Identify f) ∷ pieces) begins = cc
first_back z more (Cut (Command f) n b ∷ []) begins = cut_ifc f n b [] begins
first_back z more (Cut (Address devices) n b ∷ []) begins = cc
first_back z more (Cut (Send a number ds) n b ∷ []) begins = cc
first_back z more (Cut (Receive a number start answer) n b ∷ []) begins = cc
first_back z more (Cut (Identify f) n b ∷ []) begins = cc
first_back z more (Cut x n b ∷ p ∷ pieces) begins = cc

-- those that are due alone begin with them
keeps_begins : (due : List Due) (pieces : List Piece) → keeps_to due pieces ≡ true → begins_with due pieces ≡ true
keeps_begins [] pieces keeps = refl
keeps_begins (test ∷ more) [] keeps = cc
keeps_begins (test ∷ more) (Whole x ∷ pieces) keeps =
    let parts = and_parts (test true x) (keeps_to more pieces) keeps in
    and_from (test true x) (begins_with more pieces) parts.0 (keeps_begins more pieces parts.1)
keeps_begins (test ∷ more) (Cut x n b ∷ []) keeps = keeps
keeps_begins (test ∷ more) (Cut x n b ∷ p ∷ pieces) keeps = cc

pub addressed_back : (z : LoopState) (more : List Due) (pieces : List Piece) → keeps_to (addresses_due z ++ more) pieces ≡ true → takes_back_first (flat_map (piece_entries 0) pieces) ≡ true
addressed_back z more pieces keeps = first_back z more pieces (keeps_begins (addresses_due z ++ more) pieces keeps)

-- ---- events

module _ (plan : List Planned) (e : Event) (so : Exchanged plan e) where
  -- the host controls the loop after it
  pub controls_still : controller_after 0 e.log ≡ 0
  controls_still = controller_after-no_lend e.log (has_no_lend-reading (ring_of e.before.loop) e.log so.reading)

  -- a command of the loop
  pub clears_course : (course : List Due) → course_of e.item e.before.loop ≡ Some course → e.before.ready ≡ false → takes_back_first e.log ≡ true
  clears_course course is off =
      ap takes_back_first so.reading.entries
      ∙ addressed_back e.before.loop course so.reading.pieces
      (subst (λ ready. keeps_course e.before.loop ready (Some course) so.reading.pieces ≡ true) off (subst (λ due. keeps_course e.before.loop e.before.ready due so.reading.pieces ≡ true) is so.course))

  -- a command of the volume, which finds the store not sound where the loop is not ready
  pub clears_volume : is_of_volume e.item ≡ true → e.before.sound ≡ false → e.before.ready ≡ false → takes_back_first e.log ≡ true
  clears_volume of unsound off =
      ap takes_back_first so.reading.entries
      ∙ first_back e.before.loop (clears_due e.before.loop) so.reading.pieces
      (subst (λ ready. begins_with (cleared_first e.before.loop ready false) so.reading.pieces ≡ true) off
      (subst (λ sound. begins_with (cleared_first e.before.loop e.before.ready sound) so.reading.pieces ≡ true) unsound (so.begins of)))
