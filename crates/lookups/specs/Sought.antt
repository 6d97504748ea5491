-- What a walk below the root ends with: an entry, by its link, or none.
use Rattle.std.specs.Prelude.{List, ◌≡◌, ℕ, suc, ◌+◌, ◌≤◌, Option, Some, None}
use Rattle.std.proofs.Math.Option.{Option as Known, none as nil, some}
use Rattle.rules.specs.Order.{Side}
use Rattle.rules.specs.Edition.{edition}
use Rattle.rules.specs.Tree.{Entry, Tree, size}
use Rattle.rules.specs.Perform.{seek, entry_or}
use Rattle.rules.specs.Arena.{slot_at}
use Rattle.node.specs.Stands.{Inside}

-- The link x leads to the entry e, whose slot lies in the words and holds its key and value.
pub record Leads (wd : ℕ) (w : List ℕ) (x : ℕ) (e : Entry ℕ) : Type 0 where
  pub at : x ≡ suc e.slot
  pub inside : Inside wd w x
  pub key : (slot_at (edition wd) w e.slot).key ≡ e.key
  pub value : (slot_at (edition wd) w e.slot).value ≡ e.value

-- The link that there is leads to the entry that there is; or there is none of either.
pub data LeadsOr (wd : ℕ) (w : List ℕ) : Option ℕ → Known (Entry ℕ) → Type 0 where
  nowhere : LeadsOr wd w None nil
  leads_to : {x : ℕ} {e : Entry ℕ} → Leads wd w x e → LeadsOr wd w (Some x) (some e)

-- The walk of next and prev, from a tree with nothing known yet: the entry found, and the nodes met.
pub record SoughtIn (wd : ℕ) (d : Side) (key : ℕ) (w : List ℕ) (t : Tree ℕ) (x : Option ℕ) (n : ℕ) : Type 0 where
  pub entry : Known (Entry ℕ)
  pub leads : LeadsOr wd w x entry
  pub same : (m : ℕ) → seek (edition wd) d key t nil m ≡ entry_or (edition wd) entry (m + n)
  pub few : n ≤ size t
