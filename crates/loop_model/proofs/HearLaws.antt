-- Laws of what a device hears by a log.
use Rattle.std.proofs.Common.{◌≡◌, ◌∙◌, ◌&&◌, ◌++◌, Bool, true, false, ℕ, List, [], ◌∷◌, refl, sym, ap, append_assoc}
use Rattle.std.specs.Prelude.{if◌then◌else◌}
use Rattle.std.specs.List.{list_all}
use Rattle.std.proofs.lemmas.Bool.{and_parts, not-true}
use Rattle.il_frames.specs.declared.entry.Entry.{Entry}
use Rattle.il_frames.specs.Frames.{is_data}
use Rattle.il_device.specs.declared.roles.Roles.{Roles}
use Rattle.loop_model.specs.Hearing.{heard_of, heard_by, has_no_data}
use Rattle.loop_model.specs.Roles.{roles_after_entry, roles_after}

-- what is heard of an appended log is what is heard of its first part, and then of the second by the
-- roles between
pub heard_by-append : (k party : ℕ) (rs : List Roles) (first second : List Entry) →
    heard_by k party rs (first ++ second) ≡ heard_by k party rs first ++ heard_by k party (roles_after rs first) second
heard_by-append k party rs [] second = refl
heard_by-append k party rs (e ∷ first) second =
    ap (λ (bytes : List ℕ). heard_of k party rs e ++ bytes) (heard_by-append k party (roles_after_entry rs e) first second)
    ∙ sym (append_assoc (heard_of k party rs e) (heard_by k party (roles_after_entry rs e) first) _)

unheard : (listens data_frame rest : Bool) (bytes : List ℕ) → data_frame ≡ false →
    (if listens && (data_frame && rest) then bytes else []) ≡ []
unheard true true rest bytes e = cc
unheard true false rest bytes e = refl
unheard false data_frame rest bytes e = refl

-- nothing is heard of a log without data frames
pub heard_by-no_data : (k party : ℕ) (rs : List Roles) (log : List Entry) → list_all has_no_data log ≡ true →
    heard_by k party rs log ≡ []
heard_by-no_data k party rs [] none = refl
heard_by-no_data k party rs (e ∷ log) none =
    let parts = and_parts (has_no_data e) (list_all has_no_data log) none in
    ap (λ (bytes : List ℕ). bytes ++ heard_by k party (roles_after_entry rs e) log) (unheard _ (is_data e.frame) _ _ (not-true (is_data e.frame) parts.0))
    ∙ heard_by-no_data k party (roles_after_entry rs e) log parts.1
