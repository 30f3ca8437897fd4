-- Entries of the host before a lend report no status to a second controller.
use Rattle.std.proofs.Common.{◌≡◌, ◌∙◌, ◌++◌, ◌==◌, ◌&&◌, ℕ, Bool, true, false, List, [], ◌∷◌, if◌then◌else◌, refl, ap}
use Rattle.std.specs.List.{list_all}
use Rattle.std.proofs.lemmas.Bool.{and_parts, eqb-true}
use Rattle.il_frames.specs.declared.entry.Entry.{Entry}
use Rattle.il_frames.specs.Frames.{byte_of}
use Rattle.il_ring.specs.Statuses.{is_reported, reported_by}

-- the host sent it
abbrev pub is_from_host : Entry → Bool
is_from_host e = e.source == 0

-- and no other party
not_of_other : (e : Entry) (k : ℕ) → is_from_host e ≡ true → (0 == k) ≡ false → (e.source == k) ≡ false
not_of_other e k host other = ap (λ s. s == k) (eqb-true e.source 0 host) ∙ other

-- no device reported anything by them
pub told_by_after_host : (k q : ℕ) (front rest : List Entry) → list_all is_from_host front ≡ true → (0 == q) ≡ false → reported_by k q (front ++ rest) ≡ reported_by k q rest
told_by_after_host k q [] rest hosts other = refl
told_by_after_host k q (e ∷ front) rest hosts other =
    let parts = and_parts (is_from_host e) (list_all is_from_host front) hosts in
    ap (λ own. if own && is_reported k e (front ++ rest) then byte_of e.frame ∷ reported_by k q (front ++ rest) else reported_by k q (front ++ rest)) (not_of_other e q parts.0 other)
    ∙ told_by_after_host k q front rest parts.1 other
