use Rattle.std.proofs.Common.{◌≡◌, ◌-◌, take, drop, length, ap, ap₂, ◌∙◌}
use Rattle.il_script.specs.Words.{words_of, is_space, is_dark}
use Rattle.il_script.proofs.WordCuts.{reach_of, length-front, spaces-dropped, dark-start, first-word, words-behind, is-next, rest_whole}
use Rattle.il_script.proofs.words.next_word.Goals as goal

pub returns-clause-words : goal.returns-clause-words
returns-clause-words c =
    let line = c.args.line.now in
    let g : c.gap.result ≡ reach_of is_space line = c.gap.ensures ∙ length-front is_space line in
    let from = drop (reach_of is_space line) line in
    let seen : take (length line - c.gap.result) (drop c.gap.result line) ≡ from = rest_whole line c.gap.result ∙ ap (λ k. drop k line) g in
    let r : c.reach.result ≡ reach_of is_dark from = c.reach.ensures ∙ length-front is_dark (take (length line - c.gap.result) (drop c.gap.result line)) ∙ ap (reach_of is_dark) seen in
    let front : c.split_at.result.0.now ≡ take (reach_of is_dark from) from = c.split_at.ensures.front ∙ ap₂ take r seen in
    let back : c.split_at.result.1.now ≡ drop (reach_of is_dark from) from = c.split_at.ensures.back ∙ ap₂ drop r seen in
    is-next line from c.split_at.result.0.now c.split_at.result.1.now (spaces-dropped line) (front ∙ first-word from) (ap words_of back ∙ words-behind from) (dark-start line)
