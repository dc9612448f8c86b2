-- `words` meets its contract: kind by kind. Assumes nothing.
use Rattle.handed.proofs.words.Goals as goal

pub returns-in-Pressure : goal.returns-in-Pressure
returns-in-Pressure c = rw c.in-Pressure.is c.pressure_words.ensures

pub returns-in-Tendency : goal.returns-in-Tendency
returns-in-Tendency c = rw c.in-Tendency.is c.tendency_words.ensures

pub returns-in-Wind : goal.returns-in-Wind
returns-in-Wind c = rw c.in-Wind.is c.wind_words.ensures

pub returns-in-Humidity : goal.returns-in-Humidity
returns-in-Humidity c = rw c.in-Humidity.is c.humidity_words.ensures
