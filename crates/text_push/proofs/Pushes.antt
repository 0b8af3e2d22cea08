-- A push is the put of what fits, and else nothing.
-- Assumes nothing.
use Prim.Native.Nat.{ℕ, ◌+◌, ◌*◌, ◌^◌, ◌≤◌, ◌<◌}
use native.Mathlib.Omega.{arith}
use mathlib.Core.Path.{◌≡◌, refl}
use mathlib.Core.List.{List, append_assoc}
use borrow.Author.Tests.{le-leb, lt-leb}
use lib.ListN.{length}
use lib.Seq.{sets-eq}
use Rattle.std.specs.Prelude.{Ok, Err}
use Rattle.text.specs.Pages.{Puts}
use Rattle.text.specs.declared.Page.{Page}
use Rattle.text_push.specs.declared.Full.{Full}
use Rattle.text_push.specs.Pushed.{pushed, IsPushed, Pushes}

-- t and u are a page of one byte before and after the same put
module _ (old : Page) (w : List ℕ) (t u : Page) (f : Puts t w u) (e : t.at ≡ old.at) where
  pub push_fits : (new : Page) → length old.out.now * 1 < 2 ^ 63 → u.at ≤ length old.out.now → Puts old w new
      → IsPushed old w new (Ok tt)
  unfolding pushed
  push_fits new h k g =
      let fits : old.at + length w ≤ length old.out.now = omega (arith, f.put.place) in
      let end : new.at ≡ old.at + length w = omega (arith, g.put.place) in
      record { all_or_none = rw (le-leb _ _ fits, end, g.put.bytes); same = g.same }

  pub push_full : (r : Full) → length old.out.now < u.at → IsPushed old w old (Err r)
  unfolding pushed
  push_full r k =
      let full : length old.out.now < old.at + length w = omega (arith, f.put.place) in
      record { all_or_none = rw (lt-leb _ _ full); same = refl }

pub pushes : Pushes
unfolding pushed
pushes =
    record {
      fits = λ o at w h. rw (le-leb _ _ h, sets-eq w o at h, append_assoc);
      full = λ o at w h. rw (lt-leb _ _ h);
    }
