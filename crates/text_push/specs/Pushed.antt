-- Characters in a buffer: all of them, or none.
use Rattle.std.specs.Prelude.{ℕ, ◌+◌, ◌≤◌, ◌<◌, ◌≡◌, Bool, true, false, Result, Ok, Err}
use Rattle.std.specs.Prelude.{List, ◌++◌, leb, length, take, drop}
use Rattle.std.proofs.lemmas.List.Edits.{sets}
use Rattle.bits.specs.Bits.{choose}
use Rattle.std.specs.Borrow.{MutBor}
use Rattle.text.specs.Pages.{Puts}
use Rattle.text.specs.declared.Page.{Page}
use Rattle.text_push.specs.declared.Full.{Full}

-- a buffer, a place in it, and whether a push was accepted
pub record After : Type 0 where
  pub bytes : List ℕ
  pub at : ℕ
  pub ok : Bool

abbrev pub after : Page → Result Unit Full → After
after page (Ok _) = record { bytes = page.out.now; at = page.at; ok = true }
after page (Err _) = record { bytes = page.out.now; at = page.at; ok = false }

-- all of the word w, or no byte of it
unfoldable pub pushed : List ℕ → ℕ → List ℕ → After
pushed o at w =
    choose (leb (at + length w) (length o))
    (record { bytes = sets o at w; at = at + length w; ok = true })
    (record { bytes = o; at = at; ok = false })

-- the same of a page and the answer; the buffer is the same one
pub record IsPushed (old : Page) (w : List ℕ) (new : Page) (result : Result Unit Full) : Type 0 where
  pub all_or_none : after new result ≡ pushed old.out.now old.at w
  pub same : new.out.ghost_name ≡ old.out.ghost_name

-- what is claimed of a push: where there is room, the word is at the place and every
-- other byte is as it was; where there is none, every byte is as it was
pub record Pushes : Type 0 where
  pub fits : (o : List ℕ) (at : ℕ) (w : List ℕ) → at + length w ≤ length o
      → pushed o at w ≡ record { bytes = take at o ++ (w ++ drop (at + length w) o); at = at + length w; ok = true }
  pub full : (o : List ℕ) (at : ℕ) (w : List ℕ) → length o < at + length w
      → pushed o at w ≡ record { bytes = o; at = at; ok = false }

-- calls put the word w, whatever the page
abbrev pub PutsOnEach : (MutBor Page → MutBor Page → Type 0) → List ℕ → Type 0
PutsOnEach calls w = (o n : MutBor Page) → calls o n → Puts o.now w n.now
