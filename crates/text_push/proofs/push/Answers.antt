use mathlib.Core.Path.{refl}
use Rattle.text_push.proofs.Pushes.{push_fits, push_full}
use borrow.Author.Rules.{rules}
use Rattle.text_push.proofs.push.Goals as goal

pub returns-then-trial-page : goal.returns-then-trial-page
returns-then-trial-page g c w h = push_full _ _ _ _ (h _ _ c.put.ensures) refl _ c.if-trial-page.true

pub returns : goal.returns
returns g c w h =
    push_fits _ _ _ _ (h _ _ c.put.ensures) refl _ (search rules) c.if-trial-page.false (h _ _ c.put-2.ensures)
