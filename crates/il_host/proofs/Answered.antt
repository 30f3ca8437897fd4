-- What a run has answered so far, item by item, whatever it writes.
use Rattle.std.proofs.Common.{◌≡◌, ◌≤◌, ◌∙◌, ◌++◌, ℕ, List, [], ◌∷◌, true, Option, is_some, refl, ap, subst}
use Rattle.std.specs.Prelude.{Result}
use Rattle.lif_model.specs.Stops.{LeavesOnly}
use Rattle.il_script.specs.declared.reply.Reply.{Reply}
use Rattle.host_model.specs.Requests.{Item}
use Rattle.host_model.specs.Steps.{Event, IsStep}
use Rattle.host_model.specs.Stops.{LeftWithin}
use Rattle.host_model.specs.Runs.{AreTextsOf, Chained, OutputMode, items_asked}
use Rattle.host_model.specs.Leaves.{AsksAs, IsOkAs, WritesAs}
use Rattle.host_model.proofs.Steps.{faults_later}
use Rattle.host_model.proofs.Growing.{chained_more, items_more, told_stays, texts_push, leaves_more, leaves_first}
use Rattle.il_host.specs.HostView.{HostView, IsHost, KeepsImages}
use Rattle.il_host.specs.Run.{Answers, AnswersScript, end_of, event_of}
use Rattle.il_host.specs.declared.ending.Ending.{Ending}
use Rattle.il_host.proofs.Images.{images_kept, images_then}

-- these items were answered from v to w, each by its event
pub record Answered (v w : HostView) (items : List Item) (events : List Event) (texts : List (List ℕ)) : Type 0 where
  pub plan : w.plan ≡ v.plan
  pub chain : Chained v.plan v.state events w.state
  pub asked : items_asked events ≡ items
  pub texts_are : AreTextsOf events texts
  pub stops : is_some v.state.tape ≡ true → LeavesOnly v.moment w.moment v.left_since w.left_since (LeftWithin events w.state)
  pub images : KeepsImages v.inside w.inside v.images w.images

-- none were
pub answered_none : (v : HostView) → IsHost v → Answered v v [] [] []
answered_none v host = record {
  plan = refl;
  chain = refl;
  asked = refl;
  texts_are = tt;
  stops = λ told. leaves_first v.state v.moment v.left_since host.leaves_only told;
  images = images_kept v.inside v.images;
}

-- and one more
pub answered_more : {E : Type 0} (v w x : HostView) (items : List Item) (events : List Event) (texts : List (List ℕ)) (item : Item) (r : Reply) (mode : OutputMode) (before now : Option (List ℕ)) (written : Result (Unit {0}) E)
    → Answered v w items events texts → (a : Answers item r mode w x before now written) → Answered v x (items ++ item ∷ []) (events ++ event_of item r a.log w x ∷ []) (texts ++ a.text ∷ [])
answered_more v w x items events texts item r mode before now written s a =
    let e : Event = event_of item r a.log w x in
    record {
      plan = a.plan ∙ s.plan;
      chain = chained_more v.plan v.state events e s.chain (subst (λ plan. IsStep plan e) s.plan a.step);
      asked = items_more events e ∙ ap (λ l. l ++ item ∷ []) s.asked;
      texts_are = texts_push events texts e a.text s.texts_are a.text_is;
      stops = λ told.
          let told_now : is_some w.state.tape ≡ true = told_stays v.plan v.state events w.state s.chain ∙ told in
          leaves_more events e v.moment w.moment x.moment v.left_since w.left_since x.left_since (s.stops told) (a.stops told_now);
      images = images_then v.inside w.inside x.inside v.images w.images x.images s.images a.images;
    }

-- the medium's count of faults never falls
pub answers-grow : {E : Type 0} (item : Item) (r : Reply) (mode : OutputMode) (v w : HostView) (before now : Option (List ℕ)) (written : Result (Unit {0}) E)
    → Answers item r mode v w before now written → v.state.faults ≤ w.state.faults
answers-grow item r mode v w before now written a = faults_later v.plan (event_of item r a.log v w) a.step

-- and so the loop ends
pub answers_script : (generated : Option (ℕ × ℕ)) (ending : Ending) (mode : OutputMode) (v w : HostView) (left left_now before now : Option (List ℕ)) (items : List Item) (events : List Event) (texts : List (List ℕ))
    → Answered v w items events texts → AsksAs generated (end_of ending) left left_now (items_asked events) → IsOkAs (end_of ending) events
    → WritesAs (end_of ending) mode events texts before now → AnswersScript generated ending mode v w left left_now before now
answers_script generated ending mode v w left left_now before now items events texts s asks ok writes = record {
  ran = record {
    events = events;
    chain = s.chain;
    asks = asks;
    ok = ok;
    texts = texts;
    texts_are = s.texts_are;
    writes = writes;
  };
  stops = s.stops;
  images = s.images;
}
