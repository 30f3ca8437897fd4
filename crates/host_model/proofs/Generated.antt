-- Each line of a generated script is one item.
use Rattle.std.proofs.Common.{◌≡◌, ◌∙◌, ◌-◌, ◌==◌, ◌%◌, ℕ, zero, suc, Bool, true, false, if◌then◌else◌, List, [], ◌∷◌, Option, Some, None, is_some, length, take, drop, refl, ap, arith, codes}
use Rattle.std.specs.Prelude.{Result, Ok, Err, map, nat_eq}
use Rattle.std.specs.List.{cons_option, ends_with}
use Rattle.il_script.specs.Commands.{Asked, asked_of, not_skipped, reading_of_words}
use Rattle.il_script.specs.Words.{WordCut, word_before, word_cut, words_of}
use Rattle.il_script.specs.declared.command.LineFault.{LineFault}
use Rattle.host_model.specs.Requests.{Item, item_of, item_of_read, coded, lone_items}
use Rattle.host_model.specs.Generated.{draw, drawn, stores, store_line, purge_line, fetch_line, chosen_line, more_lines, items_generated}

-- ---- lines that are not skipped

read_is_item : (r : Result Asked LineFault) → is_some (item_of_read (coded (not_skipped r))) ≡ true
read_is_item (Ok asked) = refl
read_is_item (Err fault) = refl

no_comment : (b : Bool) (r : Result Asked LineFault) → b ≡ false → is_some (item_of_read (coded (if b then Ok None else not_skipped r))) ≡ true
no_comment true r e = cc
no_comment false r e = read_is_item r

-- a byte more before the first word
abbrev longer : ℕ → WordCut → WordCut
longer x c = record { first = x ∷ c.first; more = c.more }

dark_first : (b : Bool) (x : ℕ) (c : WordCut) → b ≡ false → (if b then record { first = []; more = word_before c.first c.more } else longer x c) ≡ longer x c
dark_first true x c e = cc
dark_first false x c e = refl

-- the first byte is neither a space nor a number sign
begun : (x : ℕ) (rest : List ℕ) → (x == 32) ≡ false → (x == 35) ≡ false → is_some (item_of_read (coded (reading_of_words (words_of (x ∷ rest))))) ≡ true
begun x rest dark plain =
    ap (λ (c : WordCut). is_some (item_of_read (coded (reading_of_words (word_before c.first c.more))))) (dark_first (x == 32) x (word_cut rest) dark)
    ∙ no_comment (x == 35) (asked_of (x ∷ (word_cut rest).first) (word_cut rest).more) plain

-- and a carriage return at the end changes nothing
pub line_is_item : (x y : ℕ) (rest : List ℕ) → (x == 32) ≡ false → (x == 35) ≡ false → is_some (item_of (Some (x ∷ y ∷ rest))) ≡ true
line_is_item x y rest dark plain = by (ends_with nat_eq (x ∷ y ∷ rest) (13 ∷ []))
  where
    by : (b : Bool) → is_some (item_of_read (coded (reading_of_words (words_of (if b then take (length (x ∷ y ∷ rest) - 1) (x ∷ y ∷ rest) else x ∷ y ∷ rest))))) ≡ true
    by true =
        let size : length (x ∷ y ∷ rest) - 1 ≡ suc (length rest) = omega arith in
        ap (λ n. is_some (item_of_read (coded (reading_of_words (words_of (take n (x ∷ y ∷ rest))))))) size ∙ begun x (take (length rest) (y ∷ rest)) dark plain
    by false = begun x (y ∷ rest) dark plain

-- ---- generated lines

pub first_is_item : is_some (item_of (Some (codes "format GENTAP 64"))) ≡ true
first_is_item = line_is_item 102 111 (drop 2 (codes "format GENTAP 64")) refl refl

pub chosen_is_item : (j c l : ℕ) → is_some (item_of (Some (chosen_line j c l))) ≡ true
chosen_is_item j c l = by (stores c) (c % 4 == 2)
  where
    by : (a b : Bool) → is_some (item_of (Some (if a then store_line j l else if b then purge_line j else fetch_line j))) ≡ true
    by true b = line_is_item 115 116 (drop 2 (store_line j l)) refl refl
    by false true = line_is_item 112 117 (drop 2 (purge_line j)) refl refl
    by false false = line_is_item 102 101 (drop 2 (fetch_line j)) refl refl

-- ---- so many lines, so many items

one_more : (o : Option Item) (items : List Item) → is_some o ≡ true → length (cons_option o items) ≡ suc (length items)
one_more (Some item) items e = refl
one_more None items e = cc

items_of_more : (x count : ℕ) → length (lone_items (map Some (more_lines x count))) ≡ count
items_of_more x zero = refl
items_of_more x (suc count) =
    let state = if stores (drawn (draw (draw x))) then draw (draw (draw x)) else draw (draw x) in
    one_more _ (lone_items (map Some (more_lines state count))) (chosen_is_item (drawn (draw x)) (drawn (draw (draw x))) (drawn (draw (draw (draw x))))) ∙ ap suc (items_of_more state count)

pub items_generated-length : (seed count : ℕ) → length (items_generated seed count) ≡ count
items_generated-length seed zero = refl
items_generated-length seed (suc count) = one_more (item_of (Some (codes "format GENTAP 64"))) (lone_items (map Some (more_lines seed count))) first_is_item ∙ ap suc (items_of_more seed count)
