-- Four counts a quarter of a ring apart, at v, v + 64, v + 128 and v + 192: what private code needs. Assumes nothing.
use Rattle.std.specs.Prelude.{ℕ, ◌+◌, max}
use Rattle.rings.specs.Class.{cap}
use Rattle.rings.specs.declared.quads.Quad.{Quad}

-- f at 0, and a quarter, a half and three quarters on
abbrev pub four_of : (ℕ → ℕ) → Quad
four_of f = record { a = f 0; b = f 64; c = f 128; d = f 192 }

-- sums up to 255
abbrev pub plus_of : Quad → Quad → Quad
plus_of p q = record { a = cap (p.a + q.a); b = cap (p.b + q.b); c = cap (p.c + q.c); d = cap (p.d + q.d) }

-- the greater of two, each time
abbrev pub greater_of : Quad → Quad → Quad
greater_of p q = record { a = max p.a q.a; b = max p.b q.b; c = max p.c q.c; d = max p.d q.d }

-- read from a quarter on, and from a half
abbrev pub turned_of : Quad → Quad
turned_of p = record { a = p.b; b = p.c; c = p.d; d = p.a }

abbrev pub opposite_of : Quad → Quad
opposite_of p = record { a = p.c; b = p.d; c = p.a; d = p.b }

abbrev pub top_of : Quad → ℕ
top_of p = max (max p.a p.b) (max p.c p.d)

-- the greatest sums of four under q = 0, 1, 2 and 3: the second turned by q quarters, the third by 2 q, the fourth by 3 q
abbrev pub tops_of : Quad → Quad → Quad → Quad → Quad
tops_of p q r u =
    record {
      a = top_of (plus_of (plus_of p r) (plus_of q u));
      b = top_of (plus_of (plus_of p (opposite_of r)) (turned_of (plus_of q (opposite_of u))));
      c = top_of (plus_of (plus_of p r) (opposite_of (plus_of q u)));
      d = top_of (plus_of (plus_of p (opposite_of r)) (opposite_of (turned_of (plus_of q (opposite_of u)))));
    }
