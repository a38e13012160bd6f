-- `mesh::count_cause` meets its contract: the causes 1, 2 and 12 in order. Assumes nothing.
use mathlib.Core.Path.{sym}
use Rattle.mesh.specs.CauseLaws.{count_none}
use Rattle.mesh.proofs.Counts.{refuse_vertices, refuse_triples, many-vertices, many-faces, too_short_lem}
use Rattle.mesh.proofs.count_cause.Goals as goal

pub returns-then-verts-ne0 : goal.returns-then-verts-ne0
returns-then-verts-ne0 c = refuse_vertices c.args.verts.now c.args.faces.now c.args.room c.if-verts-ne0.true

pub returns-then-faces-ne0 : goal.returns-then-faces-ne0
returns-then-faces-ne0 c = refuse_triples c.args.verts.now c.args.faces.now c.args.room c.if-verts-ne0.false c.if-faces-ne0.true

pub returns-then-verts-gt-MAX_VERTICES : goal.returns-then-verts-gt-MAX_VERTICES
returns-then-verts-gt-MAX_VERTICES c = many-vertices c.args.verts.now c.args.faces.now c.args.room c.if-verts-ne0.false c.if-faces-ne0.false c.if-verts-gt-MAX_VERTICES.true

pub returns-then-faces-gt-MAX_FACES : goal.returns-then-faces-gt-MAX_FACES
returns-then-faces-gt-MAX_FACES c = many-faces c.args.verts.now c.args.faces.now c.args.room c.if-verts-ne0.false c.if-faces-ne0.false c.if-verts-gt-MAX_VERTICES.false c.if-faces-gt-MAX_FACES.true

pub returns-then-room-faces : goal.returns-then-room-faces
returns-then-room-faces c =
    too_short_lem c.args.verts.now c.args.faces.now c.args.room c.if-verts-ne0.false c.if-faces-ne0.false c.if-verts-gt-MAX_VERTICES.false
    c.if-faces-gt-MAX_FACES.false c.if-room-faces.true

pub returns : goal.returns
returns c =
    sym (count_none c.args.verts.now c.args.faces.now c.args.room
    (record { coordinates = c.if-verts-ne0.false; corners = c.if-faces-ne0.false; vertices = c.if-verts-gt-MAX_VERTICES.false; faces = c.if-faces-gt-MAX_FACES.false; room = c.if-room-faces.false }))
