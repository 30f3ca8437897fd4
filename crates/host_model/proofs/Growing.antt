-- Laws of a run that goes on by one event at its end.
use Rattle.std.proofs.Common.{◌≡◌, ◌++◌, ◌∙◌, ◌&&◌, ℕ, true, false, List, [], ◌∷◌, Option, Some, is_some, inl, inr, refl, sym, ap, subst, append_assoc, append-nil}
use Rattle.std.proofs.Math.Bool.{and-true, and_assoc}
use Rattle.std.proofs.lemmas.List.{map-append}
use Rattle.std.specs.Prelude.{option_and_then, IfSome}
use Rattle.lif_model.specs.Stops.{LeavesOnly}
use Rattle.lif_model.specs.Tape.{Tape}
use Rattle.lif_model.proofs.Commit.{settles_self}
use Rattle.lif_model.specs.Volume.{is_foreign_gated}
use Rattle.lif_model.specs.Packing.{finished_volume_of}
use Rattle.lif_model.proofs.Moments.{started, follows, weaker}
use Rattle.il_script.specs.Replies.{is_ok}
use Rattle.il_script.specs.declared.reply.Reply.{Reply}
use Rattle.il_script.specs.declared.reply.Reply.TheVariants as reply
use Rattle.il_ring.specs.declared.plan.Planned.{Planned}
use Rattle.host_model.specs.Requests.{OfVolume, Get, Pack, Devices, Status, Poll, Say, Paper, Lend, Item, Asks, NoCommand}
use Rattle.host_model.specs.HostStates.{HostState, HasOwnGate}
use Rattle.host_model.specs.Steps.{Event, IsStep, packs_as}
use Rattle.host_model.specs.Stops.{IsLeft, MayBeLeft, LeftWithin}
use Rattle.host_model.specs.Runs.{AreTextsOf, Chained, IsTextOf, items_asked, all_ok, OutputMode, event_text, event_texts, Tally, with_reply, tally_of}
use Rattle.host_model.proofs.NoCommands.{told_tape}
use Rattle.host_model.proofs.Steps.{alike}

-- the events still follow each other
pub chained_more : (plan : List Planned) (start : HostState) (events : List Event) (e : Event) → Chained plan start events e.before → IsStep plan e
    → Chained plan start (events ++ e ∷ []) e.after
chained_more plan start [] e chain s = (chain, s, refl)
chained_more plan start (d ∷ events) e chain s = (chain.0, chain.1, chained_more plan d.after events e chain.2 s)

-- what is told of them grows by the last one
pub items_more : (events : List Event) (e : Event) → items_asked (events ++ e ∷ []) ≡ items_asked events ++ e.item ∷ []
items_more events e = map-append (λ (d : Event). d.item) events (e ∷ [])

pub all_ok_more : (events : List Event) (e : Event) → all_ok (events ++ e ∷ []) ≡ (all_ok events && is_ok e.reply)
all_ok_more [] e = and-true (is_ok e.reply)
all_ok_more (d ∷ events) e = ap (λ b. is_ok d.reply && b) (all_ok_more events e) ∙ sym (and_assoc (is_ok d.reply) (all_ok events) (is_ok e.reply))

pub texts_push : (events : List Event) (texts : List (List ℕ)) (e : Event) (text : List ℕ) → AreTextsOf events texts → IsTextOf e text → AreTextsOf (events ++ e ∷ []) (texts ++ text ∷ [])
texts_push [] [] e text are is = (is, tt)
texts_push (d ∷ events) (other ∷ texts) e text are is = (are.0, texts_push events texts e text are.1 is)
texts_push [] (other ∷ texts) e text are is = absurd are
texts_push (d ∷ events) [] e text are is = absurd are

pub texts_more : (mode : OutputMode) (events : List Event) (texts : List (List ℕ)) (e : Event) (text : List ℕ) → AreTextsOf events texts
    → event_texts mode (events ++ e ∷ []) (texts ++ text ∷ []) ≡ event_texts mode events texts ++ event_text mode e text
texts_more mode [] [] e text are = append-nil (event_text mode e text)
texts_more mode (d ∷ events) (other ∷ texts) e text are =
    ap (λ l. event_text mode d other ++ l) (texts_more mode events texts e text are.1) ∙ sym (append_assoc (event_text mode d other) (event_texts mode events texts) (event_text mode e text))
texts_more mode [] (other ∷ texts) e text are = absurd are
texts_more mode (d ∷ events) [] e text are = absurd are

-- a tape that is told stays told, and no gate that is not ours comes to be
pub told_stays : (plan : List Planned) (start : HostState) (events : List Event) (finish : HostState) → Chained plan start events finish → is_some finish.tape ≡ is_some start.tape
told_stays plan start [] finish chain = ap (λ (s : HostState). is_some s.tape) chain
told_stays plan start (e ∷ events) finish chain =
    told_stays plan e.after events finish chain.2 ∙ chain.1.acts.replied.told ∙ ap (λ (s : HostState). is_some s.tape) chain.0

pub gate_stays : (plan : List Planned) (start : HostState) (events : List Event) (finish : HostState) → Chained plan start events finish → HasOwnGate start → HasOwnGate finish
gate_stays plan start [] finish chain gate = subst HasOwnGate (sym chain) gate
gate_stays plan start (e ∷ events) finish chain gate =
    gate_stays plan e.after events finish chain.2 (chain.1.acts.replied.gate (subst HasOwnGate (sym chain.0) gate))

-- the medium keeps its size
pub size_stays : (plan : List Planned) (start : HostState) (events : List Event) (finish : HostState) → Chained plan start events finish → finish.records ≡ start.records
size_stays plan start [] finish chain = ap (λ (s : HostState). s.records) chain
size_stays plan start (e ∷ events) finish chain =
    size_stays plan e.after events finish chain.2 ∙ chain.1.acts.replied.size ∙ ap (λ (s : HostState). s.records) chain.0

-- one reply more at the end counts as one at the beginning
turned : (r q : Reply) (t : Tally) → with_reply r (with_reply q t) ≡ with_reply q (with_reply r t)
turned reply.Ok reply.Ok t = refl
turned reply.Ok (reply.No c) t = refl
turned reply.Ok reply.FaultFrame t = refl
turned reply.Ok reply.FaultMedium t = refl
turned (reply.No c) reply.Ok t = refl
turned (reply.No c) (reply.No d) t = refl
turned (reply.No c) reply.FaultFrame t = refl
turned (reply.No c) reply.FaultMedium t = refl
turned reply.FaultFrame reply.Ok t = refl
turned reply.FaultFrame (reply.No c) t = refl
turned reply.FaultFrame reply.FaultFrame t = refl
turned reply.FaultFrame reply.FaultMedium t = refl
turned reply.FaultMedium reply.Ok t = refl
turned reply.FaultMedium (reply.No c) t = refl
turned reply.FaultMedium reply.FaultFrame t = refl
turned reply.FaultMedium reply.FaultMedium t = refl

pub tally_more : (rs : List Reply) (r : Reply) → tally_of (rs ++ r ∷ []) ≡ with_reply r (tally_of rs)
tally_more [] r = refl
tally_more (q ∷ rs) r = ap (with_reply q) (tally_more rs r) ∙ turned q r (tally_of rs)

-- ---- stops

-- a stop as an item begins leaves the tape as it is
left_as_is : (tape : Option Tape) (x : Tape) (By : Type 0) → tape ≡ Some x → By → IsLeft tape x By
left_as_is tape x By is by = record {
  own = λ gate. (by, subst (λ o. IfSome o (λ t. is_foreign_gated t ≡ false)) is gate);
  foreign = alike x x is (settles_self x);
}

pub left_at_first : (item : Item) (s : HostState) (x : Tape) → s.tape ≡ Some x → MayBeLeft item s x
left_at_first (Asks (OfVolume command)) s x is = left_as_is s.tape x _ is (inl (sym (ap (option_and_then finished_volume_of) is)))
left_at_first (Asks (Get name)) s x is = left_as_is s.tape x _ is (sym (ap (option_and_then finished_volume_of) is))
left_at_first (Asks Pack) s x is = left_as_is s.tape x _ is (sym (ap (λ tape. packs_as s.records (option_and_then finished_volume_of tape)) is))
left_at_first (Asks Devices) s x is = is
left_at_first (Asks Status) s x is = is
left_at_first (Asks Poll) s x is = is
left_at_first (Asks (Say bytes)) s x is = is
left_at_first (Asks Paper) s x is = is
left_at_first (Asks (Lend frames)) s x is = is
left_at_first (NoCommand c) s x is = is

-- what a stop may have left before, it may have left still
pub left_more : (events : List Event) (e : Event) (x : Tape) → LeftWithin events e.before x → LeftWithin (events ++ e ∷ []) e.after x
left_more [] e x left = inl (left_at_first e.item e.before x left)
left_more (d ∷ events) e x (inl left) = inl left
left_more (d ∷ events) e x (inr left) = inr (left_more events e x left)

-- and what it may leave within the last event
pub left_last : (events : List Event) (e : Event) (x : Tape) → MayBeLeft e.item e.before x → LeftWithin (events ++ e ∷ []) e.after x
left_last [] e x left = inl left
left_last (d ∷ events) e x left = inr (left_last events e x left)

-- all together
pub leaves_more : (events : List Event) (e : Event) (m₀ m₁ m₂ : ℕ) (s₀ s₁ s₂ : ℕ → Tape → Type 0)
    → LeavesOnly m₀ m₁ s₀ s₁ (LeftWithin events e.before) → LeavesOnly m₁ m₂ s₁ s₂ (MayBeLeft e.item e.before) → LeavesOnly m₀ m₂ s₀ s₂ (LeftWithin (events ++ e ∷ []) e.after)
leaves_more events e m₀ m₁ m₂ s₀ s₁ s₂ so_far here =
    let all = LeftWithin (events ++ e ∷ []) e.after in
    follows m₀ m₁ m₂ s₀ s₁ s₂ all (MayBeLeft e.item e.before)
    (weaker m₀ m₁ s₀ s₁ all (LeftWithin events e.before) so_far (λ x left. left_more events e x left))
    here (λ x left. left_last events e x left)

-- a stop before the first item leaves what one within the run may leave
pub left_before : (plan : List Planned) (start : HostState) (events : List Event) (finish : HostState) (x : Tape) → Chained plan start events finish → start.tape ≡ Some x
    → LeftWithin events finish x
left_before plan start [] finish x chain is = ap (λ (s : HostState). s.tape) chain ∙ is
left_before plan start (e ∷ events) finish x chain is =
    inl (left_at_first e.item e.before x (ap (λ (s : HostState). s.tape) chain.0 ∙ is))

-- before the first item a stop leaves the tape as it is
pub leaves_first : (s : HostState) (now : ℕ) (since : ℕ → Tape → Type 0) → ((t c : Tape) → s.tape ≡ Some t → since now c → c ≡ t)
    → is_some s.tape ≡ true → LeavesOnly now now since since (LeftWithin [] s)
leaves_first s now since only told =
    let t = told_tape s.tape told in
    started now since (λ x. s.tape ≡ Some x) t.0 (λ c left. only t.0 c t.1 left) t.1
