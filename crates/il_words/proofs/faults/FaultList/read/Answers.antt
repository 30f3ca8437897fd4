use Rattle.std.proofs.Common.{◌≡◌, ℕ, ◌<◌, ◌∙◌, ◌↔◌, ◌∷◌, [], Result, Ok, Err, Some, lit<, refl, sym, ap, arith, subst, length, length-append}
use Rattle.std.specs.Option.{option_map}
use Rattle.std.specs.Result.{result_ok, IsOk, OnOk}
use Rattle.std.specs.List.{All}
use Rattle.std.proofs.lemmas.Iterator.Consumers.{YieldsList-at}
use Rattle.std.proofs.lemmas.Iterator.Splits.{YieldsList-from_str_split}
use Rattle.std.proofs.lemmas.List.Elements.{All-push, All-nil}
use Rattle.il_ring.specs.Plans.{IsPlan}
use Rattle.il_words.proofs.Lists.{IsLeft, left-start, left-bad, left-more, left-end}
use Rattle.il_words.proofs.faults.FaultList.read.Goals as goal

-- what holds where the value is there
taken : {T E : Type 0} (result : Result T E) (value : T) (P : Type 0) → Some value ≡ result_ok result → OnOk result P → P
taken (Ok other) value P e h = h
taken (Err fault) value P e h = cc

room : {T E : Type 0} (result : Result T E) (value : T) (n : ℕ) → Some value ≡ result_ok result → (IsOk result ↔ (n < 64)) → n < 64
room (Ok other) value n e h = h.0 refl
room (Err fault) value n e h = cc

pub items-init : goal.items-init
items-init c = record {
  can_next = tt;
  finite = tt;
  left =
      let cut = c.split-item-items.ensures in
      subst (λ faults. IsLeft c.args.self c.args.list.now faults c.into_iter-item-iterator.result) (sym c.new-faults.ensures)
      (left-start c.args.self c.args.list.now c.into_iter-item-iterator.result (YieldsList-at c.into_iter-item-iterator.ensures.into_iter_gives (YieldsList-from_str_split 44 c.args.list.now (lit< tt) cut.text cut.has_more cut.pattern)));
  few = omega (arith, ap length c.new-faults.ensures);
  planned = subst (All (λ p. IsPlan (p ∷ []))) (sym c.new-faults.ensures) (All-nil (λ p. IsPlan (p ∷ [])));
}

pub returns-in_err-fault-clause-faults : goal.returns-in_err-fault-clause-faults
returns-in_err-fault-clause-faults c =
    ap (option_map (λ faults. faults.items)) c.from_residual.ensures ∙ sym (left-bad c.args.self c.args.list.now c.items.faults.items c.items.item-iterator c.next.new.self c.in-Some.item c.items.invariant.left c.in-Some.ensures.steps (sym c.in_err-fault.ensures.fault))

pub items-preserved : goal.items-preserved
items-preserved c =
    let faults = c.items.faults.items in
    let fault = c.in_ok-fault.fault in
    let some = c.in_ok-ok.ensures.value in
    let pushed = taken c.try_push.result c.in_ok-ok.field-0 _ some c.try_push.ensures.ok in
    let few : length faults < 64 = room c.try_push.result c.in_ok-ok.field-0 (length faults) some c.try_push.ensures.variant in
    record {
      can_next = tt;
      finite = tt;
      left = subst (λ l. IsLeft c.args.self c.args.list.now l c.next.new.self) (sym pushed)
          (left-more c.args.self c.args.list.now faults c.items.item-iterator c.next.new.self c.in-Some.item fault c.items.invariant.left c.in-Some.ensures.steps (sym c.in_ok-fault.ensures.fault) few);
      few = omega (arith, ap length pushed, length-append faults (fault ∷ []), few);
      planned = subst (All (λ p. IsPlan (p ∷ []))) (sym pushed) (All-push (λ p. IsPlan (p ∷ [])) faults fault c.items.invariant.planned c.in_ok-fault.ensures.planned);
    }

pub returns-clause-faults : goal.returns-clause-faults
returns-clause-faults c = left-end c.args.self c.args.list.now c.items.faults.items c.items.item-iterator c.next.new.self c.items.invariant.left c.in-None.ensures.steps
