use Rattle.std.proofs.Common.{◌≡◌, ◌+◌, ◌&&◌, ℕ, List, Bool, true, false, map, filter, sym, ap, subst, ◌∙◌}
use Rattle.std.specs.List.{list_all}
use Rattle.std.specs.List.Sorted.{IsPermutation}
use Rattle.lif_model.specs.Header.{HeaderParts, directory_end}
use Rattle.lif_model.specs.Pairs.{all_pairs, all_neighbours}
use Rattle.lif_model.specs.Legal.{is_live, have_other_names}
use Rattle.lif_dir.specs.Entries.{slot_bytes}
use Rattle.lif_plan.specs.declared.extents.Extent.{Extent}
use Rattle.lif_plan.specs.Entries.{lies_within, ends_first}
use Rattle.lif_plan.proofs.LegalExtents.{extents_of, legal_outside, legal_inside}
use Rattle.lif_plan.proofs.directory.Directory.is_legal.Goals as goal

pub returns-then-not-lie_within-clause-legal : goal.returns-then-not-lie_within-clause-legal
returns-then-not-lie_within-clause-legal c = λ bytes told readable.
    let slots : List (List ℕ) = map slot_bytes c.args.self.now.table.slots in
    let end : directory_end bytes ≡ c.end.result = sym (c.end.ensures ∙ ap (λ (h : HeaderParts). h.start + h.length) told) in
    let seen : extents_of slots ≡ c.deref.result.now = sym (c.deref.ensures.value ∙ c.gather.ensures.extents) in
    let all : list_all (lies_within (directory_end bytes) c.args.size) (extents_of slots) ≡ false =
    (λ i. list_all (lies_within (end i) c.args.size) (seen i)) ∙ sym c.lie_within.ensures ∙ c.if-not-lie_within.true in
    sym (legal_outside c.args.size bytes slots readable all)

pub returns-then-follow_each_other-clause-legal : goal.returns-then-follow_each_other-clause-legal
returns-then-follow_each_other-clause-legal c = λ bytes told readable.
    let slots : List (List ℕ) = map slot_bytes c.args.self.now.table.slots in
    let end : directory_end bytes ≡ c.end.result = sym (c.end.ensures ∙ ap (λ (h : HeaderParts). h.start + h.length) told) in
    let seen : extents_of slots ≡ c.deref.result.now = sym (c.deref.ensures.value ∙ c.gather.ensures.extents) in
    let all : list_all (lies_within (directory_end bytes) c.args.size) (extents_of slots) ≡ true =
    (λ i. list_all (lies_within (end i) c.args.size) (seen i)) ∙ sym c.lie_within.ensures ∙ c.if-not-lie_within.false in
    let same : IsPermutation (extents_of slots) c.sort_by_start.new.extents.items =
    subst (λ (xs : List Extent). IsPermutation xs c.sort_by_start.new.extents.items) (c.gather.ensures.extents) c.sort_by_start.ensures.same in
    let legal = legal_inside c.args.size bytes slots readable c.sort_by_start.new.extents.items same c.sort_by_start.ensures.rising all in
    let follow : all_neighbours ends_first c.sort_by_start.new.extents.items ≡ true =
    ap (all_neighbours ends_first) (sym c.deref-2.ensures.value) ∙ sym c.follow_each_other.ensures ∙ c.if-follow_each_other.true in
    c.distinct.ensures ∙ sym (legal ∙ ap (λ (b : Bool). b && all_pairs have_other_names (filter is_live slots)) follow)

pub returns-else-follow_each_other-clause-legal : goal.returns-else-follow_each_other-clause-legal
returns-else-follow_each_other-clause-legal c = λ bytes told readable.
    let slots : List (List ℕ) = map slot_bytes c.args.self.now.table.slots in
    let end : directory_end bytes ≡ c.end.result = sym (c.end.ensures ∙ ap (λ (h : HeaderParts). h.start + h.length) told) in
    let seen : extents_of slots ≡ c.deref.result.now = sym (c.deref.ensures.value ∙ c.gather.ensures.extents) in
    let all : list_all (lies_within (directory_end bytes) c.args.size) (extents_of slots) ≡ true =
    (λ i. list_all (lies_within (end i) c.args.size) (seen i)) ∙ sym c.lie_within.ensures ∙ c.if-not-lie_within.false in
    let same : IsPermutation (extents_of slots) c.sort_by_start.new.extents.items =
    subst (λ (xs : List Extent). IsPermutation xs c.sort_by_start.new.extents.items) (c.gather.ensures.extents) c.sort_by_start.ensures.same in
    let legal = legal_inside c.args.size bytes slots readable c.sort_by_start.new.extents.items same c.sort_by_start.ensures.rising all in
    let follow : all_neighbours ends_first c.sort_by_start.new.extents.items ≡ false =
    ap (all_neighbours ends_first) (sym c.deref-2.ensures.value) ∙ sym c.follow_each_other.ensures ∙ c.if-follow_each_other.false in
    c.if-follow_each_other.false ∙ sym (legal ∙ ap (λ (b : Bool). b && all_pairs have_other_names (filter is_live slots)) follow)
