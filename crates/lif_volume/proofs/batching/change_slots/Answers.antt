use Rattle.std.proofs.Common.{◌≡◌, ◌+◌, ◌∷◌, [], ◌∙◌, ℕ, List, false, get_or, map, take, drop, refl, sym, ap, subst, arith}
use Rattle.std.specs.Prelude.{All, None}
use Rattle.std.proofs.lemmas.List.{length-map, take_more, drop_all, drop_more}
use Rattle.std.proofs.lemmas.List.Elements.{All-append, All-cons, All-nil}
use Rattle.lif_model.specs.declared.version.Version.TheVariants.{One}
use Rattle.lif_dir.specs.declared.change.Change.{Change}
use Rattle.lif_dir.specs.Entries.{slot_bytes}
use Rattle.lif_dir.specs.Changes.{FitsIn, AreInTurn, IsToldBack, slots_with}
use Rattle.lif_dir.specs.Tables.{Table}
use Rattle.lif_dir.proofs.Changing.{changed_bytes}
use Rattle.lif_volume.specs.Carrying.{slots_with_all}
use Rattle.lif_volume.proofs.batching.change_slots.Goals as goal

-- what is read of a list of changes where there is none
abbrev no_change : Change
no_change = record {
  version = One;
  slot = 0;
  entry = record { name = record { bytes = [] }; kind = 0; start = 0; length = 0; date = []; volume = 0; implementation = [] };
  next = None;
  ended = false;
}

pub loop-k-init : goal.loop-k-init
loop-k-init c = record { in_turn = λ capacity later turn. turn; slots = refl; room = refl; told = All-nil IsToldBack }

pub change-requires : goal.change-requires
change-requires c =
    let (capacity, later, fits, turn) = c.requires in
    let here = subst (λ (cs : List Change). AreInTurn capacity (map slot_bytes c.loop-k.table.slots) cs later) (drop_more c.args.changes.now c.loop-k.k no_change c.loop-k-test.true) (c.loop-k.invariant.in_turn capacity later turn) in
    (capacity, omega (arith, fits, c.loop-k.invariant.room), subst (λ (n : ℕ). FitsIn capacity n (get_or c.args.changes.now c.loop-k.k no_change)) (length-map c.loop-k.table.slots slot_bytes) here.0)

pub loop-k-preserved : goal.loop-k-preserved
loop-k-preserved c =
    let changes = c.args.changes.now in
    let k : ℕ = c.loop-k.k in
    let change : Change = get_or changes k no_change in
    let split = drop_more changes k no_change c.loop-k-test.true in
    let made : c.change.new.self.slots ≡ slots_with change c.loop-k.table.slots = ap (λ (t : Table). t.slots) c.change.ensures.changed in
    record {
      in_turn = λ capacity later turn.
          let here = subst (λ (cs : List Change). AreInTurn capacity (map slot_bytes c.loop-k.table.slots) cs later) split (c.loop-k.invariant.in_turn capacity later turn) in
          subst (λ (xs : List (List ℕ)). AreInTurn capacity xs (drop (k + 1) changes) later) (sym (ap (map slot_bytes) made ∙ changed_bytes change c.loop-k.table.slots)) here.1;
      slots = ap (slots_with_all (drop (k + 1) changes)) made ∙ sym (ap (λ (cs : List Change). slots_with_all cs c.loop-k.table.slots) split) ∙ c.loop-k.invariant.slots;
      room = ap (λ (t : Table). t.room) c.change.ensures.changed ∙ c.loop-k.invariant.room;
      told = subst (All IsToldBack) (sym (take_more changes k no_change c.loop-k-test.true))
          (All-append IsToldBack (take k changes) (change ∷ []) c.loop-k.invariant.told (All-cons IsToldBack change [] c.change.ensures.told (All-nil IsToldBack)));
    }

pub returns-clause-changed : goal.returns-clause-changed
returns-clause-changed c =
    let none : drop c.loop-k.k c.args.changes.now ≡ [] = drop_all c.loop-k.k c.args.changes.now (omega (arith, c.loop-k-test.false)) in
    let all : c.loop-k.table.slots ≡ slots_with_all c.args.changes.now c.args.table.now.slots = sym (ap (λ (cs : List Change). slots_with_all cs c.loop-k.table.slots) none) ∙ c.loop-k.invariant.slots in
    λ i. record { slots = all i; room = c.loop-k.invariant.room i }
