-- What a put does to a page.
use Rattle.std.specs.Prelude.{ℕ, ◌≡◌, List}
use Rattle.text.specs.Text.{Put}
use Rattle.text.specs.declared.Page.{Page}

-- the word w is put into the page's buffer from its place on, which moves behind w; the buffer is the same one
pub record Puts (old : Page) (w : List ℕ) (new : Page) : Type 0 where
  pub put : Put old.out.now old.at w new.out.now new.at
  pub same : new.out.ghost_name ≡ old.out.ghost_name
