-- The room of a table of states. Assumes nothing.
use Prim.Native.Nat.{ℕ, ◌≤◌}
use mathlib.Core.Bool.{Bool, true, false, cond}
use mathlib.Core.Path.{◌≡◌, refl}
use borrow.Author.Tests.{leb-true}
use lib.Dec.{leb}
use Rattle.config.specs.Limits.{max_nodes}
use Rattle.pipeline.specs.View.{few_nodes, some_nodes, table_size}

-- the table has room for all of them
pub table_fits : (n : ℕ) → n ≤ max_nodes → n ≤ table_size n
table_fits n few = go (leb n few_nodes) refl (leb n some_nodes) refl
  where
    go : (x : Bool) → leb n few_nodes ≡ x → (y : Bool) → leb n some_nodes ≡ y → n ≤ cond x few_nodes (cond y some_nodes max_nodes)
    go true e y q = leb-true n few_nodes e
    go false e true q = leb-true n some_nodes q
    go false e false q = few
