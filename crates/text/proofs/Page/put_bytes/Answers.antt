use mathlib.Core.Path.{refl}
use Rattle.std.proofs.Common.{rules}
use Rattle.text.proofs.Page.put_bytes.Goals as goal

pub returns : goal.returns
returns c =
    record {
      put = record {
        bytes = c.put_all.ensures;
        place = c.saturating_add-self.ensures;
        sized = search rules;
      };
      same = refl;
    }
