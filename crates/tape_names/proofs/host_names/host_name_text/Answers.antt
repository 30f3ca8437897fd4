use Rattle.std.proofs.Common.{Result, Ok, Err, refl, sym, subst}
use Rattle.std.specs.Prelude.{IsOk, MatchResult}
use Rattle.std.specs.Str.{IsUtf8}
use Rattle.tape_names.proofs.HostBytes.{host_name_utf8}
use Rattle.tape_names.proofs.host_names.host_name_text.Goals as goal

-- a result whose error would deny what holds
is_ok_if : {X E : Type 0} (A : X → Type 0) (B : Type 0) (C : E → Type 0) (r : Result X E) → MatchResult r A (λ e. (B → ⊥) × C e) → B → IsOk r
is_ok_if A B C (Ok x) m b = refl
is_ok_if A B C (Err e) m b = absurd (m.0 b)

pub unwrap-requires : goal.unwrap-requires
unwrap-requires c =
    is_ok_if _ (IsUtf8 c.text.result.now) _ c.from_utf8.result c.from_utf8.ensures.cases (subst IsUtf8 (sym c.text.ensures) (host_name_utf8 c.args.page.now.text c.requires))
