-- Each arm gives the parts of its topology's rule; a grid's is that of its rows and columns.
use Rattle.std.proofs.Common.{◌∙◌, subst, ◌&&◌, ◌||◌, ltb}
use Rattle.network.specs.Topology.{beside, first_and_last, child, topology_row}
use Rattle.network.specs.Builders.{right_or_below, Sized}
use Rattle.network.proofs.Sets.{set_of_cong}
use Rattle.network.proofs.Masks.{set_of_or}
use Rattle.network.proofs.Grids.{grid_links}
use Rattle.network.proofs.neighbours.Place.row.Goals as goal

pub returns-in-FullMesh : goal.returns-in-FullMesh
unfolding topology_row
returns-in-FullMesh c = rw c.in-FullMesh.is c.others.ensures

pub returns-in-Line : goal.returns-in-Line
unfolding topology_row
returns-in-Line c = rw c.in-Line.is c.beside.ensures

pub returns-in-Star : goal.returns-in-Star
unfolding topology_row
returns-in-Star c = rw c.in-Star.is c.star.ensures

pub returns-in-Grid : goal.returns-in-Grid
unfolding topology_row
returns-in-Grid c =
    let a = c.args in
    let i = a.self.at in
    let g = c.in-Grid in
    rw g.is
    (set_of_or a.self.nodes (right_or_below g.c i) (λ j. right_or_below g.c j i) c.right_and_below.ensures c.left_and_above.ensures
    ∙ set_of_cong a.self.nodes (λ j _. grid_links g.c (subst Sized g.is c.requires).0.0 a.self.nodes i j))

pub returns-in-Ring : goal.returns-in-Ring
unfolding topology_row
returns-in-Ring c =
    let a = c.args in
    let i = a.self.at in
    rw c.in-Ring.is
    (set_of_or a.self.nodes (beside i) (λ j. ltb 2 a.self.nodes && (first_and_last a.self.nodes i j || first_and_last a.self.nodes j i)) c.beside-in-Ring.ensures c.closing.ensures)

pub returns-in-Tree : goal.returns-in-Tree
unfolding topology_row
returns-in-Tree c =
    let a = c.args in
    let i = a.self.at in
    let g = c.in-Tree in
    rw g.is (set_of_or a.self.nodes (child g.b i) (λ j. child g.b j i) c.children.ensures c.parent.ensures)
