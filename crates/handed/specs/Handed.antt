-- A record as it is handed over to be written.
use Rattle.std.specs.Prelude.{Bool, ◌&&◌, cond, eqb, ℤ, pos, nat_abs}
use Rattle.number.specs.Whole.{within}
use Rattle.number.specs.declared.Kept.{Kept}
use Rattle.watchfile.specs.declared.Body.{Body}
use Rattle.watchfile.specs.declared.Body.TheVariants.{Pressure, Tendency, Wind, Humidity}
use Rattle.watchfile.specs.declared.Record.{Record}
use Rattle.watchfile.specs.declared.Figures.{Figures}

-- Numbers that fit two bytes, and one.
abbrev pub half : ℤ → Bool
half z = within (pos 0) (pos 65535) z

abbrev pub octet : ℤ → Bool
octet z = within (pos 0) (pos 255) z

-- What stands for a body that does not fit its bytes: one of its kind that breaks the rules. For one of no kind it is a pressure that
-- does.
abbrev pub misfit : Body
misfit = Pressure 0

abbrev pub pressure_body : ℤ → Body
pressure_body p = cond (half p) (Pressure (nat_abs p)) misfit

abbrev pub tendency_body : Kept → ℤ → Body
tendency_body change absent = cond (octet absent) (Tendency change (nat_abs absent)) (Tendency change 255)

abbrev pub wind_body : ℤ → ℤ → Body
wind_body speed direction = cond (half speed && half direction) (Wind (nat_abs speed) (nat_abs direction)) (Wind 0 1)

abbrev pub humidity_body : ℤ → ℤ → ℤ → ℤ → Kept → Body
humidity_body e saturation deficit relative dew =
    cond (half e && half saturation && half deficit && octet relative)
    (Humidity (nat_abs e) (nat_abs saturation) (nat_abs deficit) (nat_abs relative) dew)
    (Humidity 0 0 0 0 dew)

abbrev pub body_of : Figures → Body
body_of r =
    cond (eqb r.kind 1) (pressure_body r.first.v)
    (cond (eqb r.kind 2) (tendency_body r.first r.second.v)
    (cond (eqb r.kind 3) (wind_body r.first.v r.second.v)
    (cond (eqb r.kind 4) (humidity_body r.first.v r.second.v r.third.v r.fourth.v r.fifth)
    misfit)))

abbrev pub record_of : Figures → Record
record_of r = record { minute = r.minute; body = body_of r }
