-- The lines of a text, as they are written one by one.
use Rattle.std.proofs.Common.{◌≡◌, ◌∙◌, ◌++◌, ℕ, List, [], Option, Some, None, true, false, is_some, refl, sym, ap, option_map}
use Rattle.std.specs.List.{flat_map}
use Rattle.std.proofs.lemmas.List.{append_assoc, append-nil}
use Rattle.lif_text.specs.Pieces.{line_before}
use Rattle.host_model.specs.Replies.{line_text, lines_text}

-- a text, and then these lines where there are some
abbrev pub with_lines : List ℕ → Option (List (List ℕ)) → Option (List ℕ)
with_lines text lines = option_map (λ lines. text ++ flat_map line_text lines) lines

-- with one line more written there is one less to come
pub one_more : (text line : List ℕ) (rest : Option (List (List ℕ))) → with_lines (text ++ line_text line) rest ≡ with_lines text (line_before line rest)
one_more text line None = refl
one_more text line (Some lines) = ap Some (append_assoc text (line_text line) (flat_map line_text lines))

-- none is to come
pub all_told : (text first : List ℕ) (found : Option (List (List ℕ))) → with_lines text (Some []) ≡ with_lines first found → (true ≡ is_some found) × (text ≡ first ++ lines_text found)
all_told text first None is = cc
all_told text first (Some lines) is =
    let same : text ++ [] ≡ first ++ flat_map line_text lines = cc in
    (refl, sym (append-nil text) ∙ same)

-- what comes is no text
pub none_told : (text first : List ℕ) (found : Option (List (List ℕ))) → with_lines text None ≡ with_lines first found → false ≡ is_some found
none_told text first None is = refl
none_told text first (Some lines) is = cc
