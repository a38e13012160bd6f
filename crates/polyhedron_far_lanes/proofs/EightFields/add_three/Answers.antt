-- `polyhedron_far_lanes::EightFields::add_three` meets its contract. Assumes nothing.
use Rattle.polyhedron_far_lanes.proofs.Threes.{three_added}
use Rattle.polyhedron_far_lanes.proofs.EightFields.add_three.Goals as goal

pub returns : goal.returns
returns c =
    let a = c.args in
    let s = a.stations.now in
    let t = a.points.now in
    three_added s.x s.y s.z t.x t.y t.z t.w a.self.now.numbers a.n
    c.at-a.ensures c.at-b.ensures c.at-c.ensures
    c.add_point.ensures c.add_point-2.ensures c.add_point-3.ensures
