-- Each public contract of every crate allows a single answer, and of lent memory a single state to be left: one theorem, with a line
-- for each function. Each from the theorem of its own crate. Assumes nothing.
use mathlib.Core.Path.{refl}
use Rattle.number.specs.Single.{Single, SingleLeft}
use Rattle.number.proofs.SingleAnswers as number
use Rattle.number.proofs.Kept.number.Reads as number-Kept-number
use Rattle.number.proofs.Number.whole.Reads as number-Number-whole
use Rattle.number.proofs.Number.signed.Reads as number-Number-signed
use Rattle.number.proofs.Number.keep.Reads as number-Number-keep
use Rattle.number.proofs.Number.plus.Reads as number-Number-plus
use Rattle.number.proofs.Number.minus.Reads as number-Number-minus
use Rattle.number.proofs.Number.times.Reads as number-Number-times
use Rattle.number.proofs.Number.is_minus.Reads as number-Number-is-minus
use Rattle.number.proofs.Number.size.Reads as number-Number-size
use Rattle.number.proofs.Number.over.Reads as number-Number-over
use Rattle.number.proofs.Number.within.Reads as number-Number-within
use Rattle.number.proofs.power.Reads as number-power
use Rattle.quantity.proofs.SingleAnswers as quantity
use Rattle.quantity.proofs.BarometerUnit.holds.Reads as quantity-BarometerUnit-holds
use Rattle.quantity.proofs.Hectopascals.holds.Reads as quantity-Hectopascals-holds
use Rattle.quantity.proofs.Hectopascals.recorded.Reads as quantity-Hectopascals-recorded
use Rattle.quantity.proofs.Hectopascals.changes.Reads as quantity-Hectopascals-changes
use Rattle.quantity.proofs.Millimetres.holds.Reads as quantity-Millimetres-holds
use Rattle.quantity.proofs.WheelhouseTemperature.holds.Reads as quantity-WheelhouseTemperature-holds
use Rattle.quantity.proofs.BulbTemperature.holds.Reads as quantity-BulbTemperature-holds
use Rattle.quantity.proofs.BulbTemperature.freezes.Reads as quantity-BulbTemperature-freezes
use Rattle.quantity.proofs.BulbTemperature.leaves_doubt.Reads as quantity-BulbTemperature-leaves-doubt
use Rattle.quantity.proofs.BulbState.holds.Reads as quantity-BulbState-holds
use Rattle.quantity.proofs.BulbState.numbered.Reads as quantity-BulbState-numbered
use Rattle.quantity.proofs.BulbState.number.Reads as quantity-BulbState-number
use Rattle.quantity.proofs.MetresPerSecond.holds.Reads as quantity-MetresPerSecond-holds
use Rattle.quantity.proofs.MetresPerSecond.blows.Reads as quantity-MetresPerSecond-blows
use Rattle.quantity.proofs.Knots.holds.Reads as quantity-Knots-holds
use Rattle.quantity.proofs.Degrees.holds.Reads as quantity-Degrees-holds
use Rattle.quantity.proofs.Minute.holds.Reads as quantity-Minute-holds
use Rattle.quantity.proofs.Millimetres.hectopascals.Reads as quantity-Millimetres-hectopascals
use Rattle.quantity.proofs.MetresPerSecond.parts.Reads as quantity-MetresPerSecond-parts
use Rattle.quantity.proofs.Knots.parts.Reads as quantity-Knots-parts
use Rattle.quantity.proofs.Degrees.keep.Reads as quantity-Degrees-keep
use Rattle.octets.proofs.SingleAnswers as octets
use Rattle.octets.proofs.two.Reads as octets-two
use Rattle.octets.proofs.four.Reads as octets-four
use Rattle.octets.proofs.in_two.Reads as octets-in-two
use Rattle.octets.proofs.in_four.Reads as octets-in-four
use Rattle.octets.proofs.signed.Reads as octets-signed
use Rattle.octets.proofs.unsigned.Reads as octets-unsigned
use Rattle.octets.proofs.signed_word.Reads as octets-signed-word
use Rattle.octets.proofs.word_of.Reads as octets-word-of
use Rattle.wire.proofs.SingleAnswers as wire
use Rattle.wire.proofs.decode.Reads as wire-decode
use Rattle.wire.proofs.number.Reads as wire-number
use Rattle.message.proofs.SingleAnswers as message
use Rattle.message.proofs.receive.Reads as message-receive
use Rattle.settings.proofs.SingleAnswers as settings
use Rattle.settings.proofs.Height.holds.Reads as settings-Height-holds
use Rattle.settings.proofs.SeaLevelDifference.holds.Reads as settings-SeaLevelDifference-holds
use Rattle.settings.proofs.TemperatureCoefficient.holds.Reads as settings-TemperatureCoefficient-holds
use Rattle.settings.proofs.PsychrometerCoefficient.holds.Reads as settings-PsychrometerCoefficient-holds
use Rattle.settings.proofs.Correction.holds.Reads as settings-Correction-holds
use Rattle.settings.proofs.Rate.holds.Reads as settings-Rate-holds
use Rattle.settings.proofs.check.Reads as settings-check
use Rattle.settings.proofs.number.Reads as settings-number
use Rattle.window.proofs.SingleAnswers as window
use Rattle.window.proofs.next.Reads as window-next
use Rattle.window.proofs.accept.Reads as window-accept
use Rattle.window.proofs.find.Reads as window-find
use Rattle.window.proofs.missed.Reads as window-missed
use Rattle.cell.proofs.SingleAnswers as cell
use Rattle.cell.proofs.biased.Reads as cell-biased
use Rattle.cell.proofs.unbiased.Reads as cell-unbiased
use Rattle.cell.proofs.pair_cell.Reads as cell-pair-cell
use Rattle.cell.proofs.cell_of.Reads as cell-cell-of
use Rattle.cell.proofs.reading_in.Reads as cell-reading-in
use Rattle.certificate.proofs.SingleAnswers as certificate
use Rattle.certificate.proofs.value_at.Reads as certificate-value-at
use Rattle.block.proofs.SingleAnswers as block
use Rattle.block.proofs.lay.Reads as block-lay
use Rattle.block.proofs.is_store.Reads as block-is-store
use Rattle.block.proofs.unit.Reads as block-unit
use Rattle.block.proofs.height.Reads as block-height
use Rattle.block.proofs.difference.Reads as block-difference
use Rattle.block.proofs.coefficient.Reads as block-coefficient
use Rattle.block.proofs.psychrometer.Reads as block-psychrometer
use Rattle.block.proofs.points.Reads as block-points
use Rattle.block.proofs.point.Reads as block-point
use Rattle.block.proofs.rates.Reads as block-rates
use Rattle.block.proofs.rate.Reads as block-rate
use Rattle.anemometer.proofs.SingleAnswers as anemometer
use Rattle.anemometer.proofs.Note.holds.Reads as anemometer-Note-holds
use Rattle.anemometer.proofs.measure.Reads as anemometer-measure
use Rattle.anemometer.proofs.from_bow.Reads as anemometer-from-bow
use Rattle.store.proofs.SingleAnswers as store
use Rattle.store.proofs.«open».Reads as store-open
use Rattle.store.proofs.hear.Reads as store-hear
use Rattle.store.proofs.note.Reads as store-note
use Rattle.store.proofs.recall.Reads as store-recall
use Rattle.store.proofs.next.Reads as store-next
use Rattle.store.proofs.missing_minutes.Reads as store-missing-minutes
use Rattle.store.proofs.number.Reads as store-number
use Rattle.pressure.proofs.SingleAnswers as pressure
use Rattle.pressure.proofs.sea_level_pressure.Reads as pressure-sea-level-pressure
use Rattle.pressure.proofs.station_pressure.Reads as pressure-station-pressure
use Rattle.sine.proofs.SingleAnswers as sine
use Rattle.sine.proofs.mark.Reads as sine-mark
use Rattle.sine.proofs.size.Reads as sine_size
use Rattle.sine.proofs.sine.Reads as sine-sine
use Rattle.sine.proofs.cosine.Reads as sine-cosine
use Rattle.wind.proofs.SingleAnswers as wind
use Rattle.wind.proofs.true_wind.Reads as wind-true-wind
use Rattle.vapour.proofs.SingleAnswers as vapour
use Rattle.vapour.proofs.saturation.Reads as vapour-saturation
use Rattle.vapour.proofs.saturation_over_ice.Reads as vapour-saturation-over-ice
use Rattle.vapour.proofs.dew_point.Reads as vapour-dew-point
use Rattle.vapour.proofs.is_dew_point.Reads as vapour-is-dew-point
use Rattle.vapour.proofs.VapourPressure.holds.Reads as vapour-VapourPressure-holds
use Rattle.vapour.proofs.relative_humidity.Reads as vapour-relative-humidity
use Rattle.vapour.proofs.deficit.Reads as vapour-deficit
use Rattle.humidity.proofs.SingleAnswers as humidity
use Rattle.humidity.proofs.humidity.Reads as humidity-humidity
use Rattle.station.proofs.SingleAnswers as station
use Rattle.station.proofs.«open».Reads as station-open
use Rattle.station.proofs.hear.Reads as station-hear
use Rattle.station.proofs.note.Reads as station-note
use Rattle.station.proofs.pressure.Reads as station-pressure
use Rattle.station.proofs.tendency.Reads as station-tendency
use Rattle.station.proofs.wind.Reads as station-wind
use Rattle.station.proofs.humidity.Reads as station-humidity
use Rattle.station.proofs.number.Reads as station-number
use Rattle.watchfile.proofs.SingleAnswers as watchfile
use Rattle.watchfile.proofs.Body.kind.Reads as watchfile-Body-kind
use Rattle.watchfile.proofs.size_of.Reads as watchfile-size-of
use Rattle.watchfile.proofs.rank.Reads as watchfile-rank
use Rattle.watchfile.proofs.kind_right.Reads as watchfile-kind-right
use Rattle.watchfile.proofs.minute_right.Reads as watchfile-minute-right
use Rattle.watchfile.proofs.pressure_right.Reads as watchfile-pressure-right
use Rattle.watchfile.proofs.change_right.Reads as watchfile-change-right
use Rattle.watchfile.proofs.absent_right.Reads as watchfile-absent-right
use Rattle.watchfile.proofs.speed_right.Reads as watchfile-speed-right
use Rattle.watchfile.proofs.direction_right.Reads as watchfile-direction-right
use Rattle.watchfile.proofs.e_right.Reads as watchfile-e-right
use Rattle.watchfile.proofs.saturation_right.Reads as watchfile-saturation-right
use Rattle.watchfile.proofs.deficit_right.Reads as watchfile-deficit-right
use Rattle.watchfile.proofs.relative_right.Reads as watchfile-relative-right
use Rattle.watchfile.proofs.dew_right.Reads as watchfile-dew-right
use Rattle.watchfile.proofs.body_right.Reads as watchfile-body-right
use Rattle.watchfile.proofs.record_right.Reads as watchfile-record-right
use Rattle.reader.proofs.SingleAnswers as reader
use Rattle.reader.proofs.read.Reads as reader-read
use Rattle.reader.proofs.record_at.Reads as reader-record-at
use Rattle.handed.proofs.SingleAnswers as handed
use Rattle.handed.proofs.record_of.Reads as handed-record-of
use Rattle.handed.proofs.words.Reads as handed-words
use Rattle.handed.proofs.count.Reads as handed-count
use Rattle.handed.proofs.record_at.Reads as handed-record-at
use Rattle.writer.proofs.SingleAnswers as writer
use Rattle.writer.proofs.write.Reads as writer-write
use Rattle.text.proofs.SingleAnswers as text
use Rattle.text.proofs.SingleAnswers.{words_of}
use Rattle.text.proofs.Page.new.Reads as text-Page-new
use Rattle.text.proofs.Page.byte.Reads as text-Page-byte
use Rattle.text.proofs.Page.natural.Reads as text-Page-natural
use Rattle.text.proofs.Page.number.Reads as text-Page-number
use Rattle.text.proofs.Page.bytes.Reads as text-Page-bytes
use Rattle.text.proofs.Page.field.Reads as text-Page-field
use Rattle.text.proofs.Page.signed.Reads as text-Page-signed
use Rattle.listing.proofs.SingleAnswers as listing
use Rattle.listing.proofs.list.Reads as listing-list
use Rattle.desk.proofs.SingleAnswers as desk
use Rattle.watchlog.proofs.SingleAnswers as logbook
use Rattle.desk.proofs.hear_all.Reads as desk-hear-all
use Rattle.desk.proofs.pressure_record.Reads as desk-pressure-record
use Rattle.desk.proofs.tendency_record.Reads as desk-tendency-record
use Rattle.desk.proofs.wind_record.Reads as desk-wind-record
use Rattle.desk.proofs.humidity_record.Reads as desk-humidity-record
use Rattle.watchlog.proofs.place.Reads as logbook-place
use Rattle.watchlog.proofs.write.Reads as logbook-write
use Rattle.watchlog.proofs.take_out.Reads as logbook-take-out
use Rattle.answer.proofs.SingleAnswers as answer
use Rattle.answer.proofs.put_opening.Reads as answer-put-opening
use Rattle.answer.proofs.put_hearing.Reads as answer-put-hearing
use Rattle.answer.proofs.put_noting.Reads as answer-put-noting
use Rattle.answer.proofs.put_pressure.Reads as answer-put-pressure
use Rattle.answer.proofs.put_tendency.Reads as answer-put-tendency
use Rattle.answer.proofs.put_wind.Reads as answer-put-wind
use Rattle.answer.proofs.put_humidity.Reads as answer-put-humidity
use Rattle.answer.proofs.put_written.Reads as answer-put-written
use Rattle.line.proofs.SingleAnswers as line
use Rattle.line.proofs.next_word.Reads as line-next-word
use Rattle.line.proofs.field_end.Reads as line-field-end
use Rattle.line.proofs.same.Reads as line_same
use Rattle.line.proofs.whole.Reads as line-whole
use Rattle.line.proofs.signed.Reads as line-signed
use Rattle.hexadecimal.proofs.SingleAnswers as hex
use Rattle.hexadecimal.proofs.is_hex.Reads as hex-is-hex
use Rattle.hexadecimal.proofs.unhex.Reads as hex-unhex
use Rattle.hexadecimal.proofs.put_hex.Reads as hex-put-hex
use Rattle.command.proofs.SingleAnswers as command
use Rattle.command.proofs.parse.Reads as command-parse
use Rattle.values.proofs.SingleAnswers as values
use Rattle.values.proofs.settings_of.Reads as values-settings-of
use Rattle.values.proofs.records_of.Reads as values-records-of
use Rattle.notice.proofs.SingleAnswers as notice
use Rattle.notice.proofs.put_fault.Reads as notice-put-fault
use Rattle.told.proofs.SingleAnswers as told
use Rattle.told.proofs.hearing_told.Reads as told-hearing-told
use Rattle.told.proofs.noting_told.Reads as told-noting-told
use Rattle.told.proofs.pressure_told.Reads as told-pressure-told
use Rattle.told.proofs.tendency_told.Reads as told-tendency-told
use Rattle.told.proofs.wind_told.Reads as told-wind-told
use Rattle.told.proofs.humidity_told.Reads as told-humidity-told
use Rattle.sheet.proofs.SingleAnswers as sheet
use Rattle.sheet.proofs.settings_in.Reads as sheet-settings-in
use Rattle.sheet.proofs.read.Reads as sheet-read
use Rattle.spoken.proofs.SingleAnswers as spoken
use Rattle.spoken.proofs.put_pressure.Reads as spoken-put-pressure
use Rattle.spoken.proofs.put_tendency.Reads as spoken-put-tendency
use Rattle.spoken.proofs.put_wind.Reads as spoken-put-wind
use Rattle.spoken.proofs.put_humidity.Reads as spoken-put-humidity
use Rattle.spoken.proofs.put_reading.Reads as spoken-put-reading
use Rattle.spoken.proofs.put_refusal.Reads as spoken-put-refusal
use Rattle.kept.proofs.SingleAnswers as kept
use Rattle.kept.proofs.newest.Reads as kept-newest
use Rattle.kept.proofs.reading.Reads as kept-reading
use Rattle.kept.proofs.stretch.Reads as kept-stretch
use Rattle.entered.proofs.SingleAnswers as entered
use Rattle.entered.proofs.record.Reads as entered-record
use Rattle.filed.proofs.SingleAnswers as filed
use Rattle.filed.proofs.file_told.Reads as filed-file-told
use Rattle.filed.proofs.write_told.Reads as filed-write-told
use Rattle.filed.proofs.place_told.Reads as filed-place-told
use Rattle.filed.proofs.listed_told.Reads as filed-listed-told
use Rattle.zhitomrak.proofs.SingleAnswers as zhitomrak
use Rattle.zhitomrak.proofs.zhitomrak_version.Reads as zhitomrak-zhitomrak-version
use Rattle.bridge.proofs.SingleAnswers as bridge
use Rattle.bridge.proofs.zhitomrak_settings_of.Reads as bridge-zhitomrak-settings-of
use Rattle.bridge.proofs.zhitomrak_hear_all.Reads as bridge-zhitomrak-hear-all
use Rattle.bridge.proofs.zhitomrak_newest.Reads as bridge-zhitomrak-newest
use Rattle.bridge.proofs.zhitomrak_reading.Reads as bridge-zhitomrak-reading
use Rattle.bridge.proofs.zhitomrak_stretch.Reads as bridge-zhitomrak-stretch
use Rattle.bridge.proofs.zhitomrak_record_of.Reads as bridge-zhitomrak-record-of
use Rattle.bridge.proofs.zhitomrak_place.Reads as bridge-zhitomrak-place
use Rattle.bridge.proofs.zhitomrak_take_out.Reads as bridge-zhitomrak-take-out
use Rattle.bridge.proofs.zhitomrak_say_refusal.Reads as bridge-zhitomrak-say-refusal
use Rattle.bridge.proofs.zhitomrak_say_pressure.Reads as bridge-zhitomrak-say-pressure
use Rattle.bridge.proofs.zhitomrak_say_tendency.Reads as bridge-zhitomrak-say-tendency
use Rattle.bridge.proofs.zhitomrak_say_wind.Reads as bridge-zhitomrak-say-wind
use Rattle.bridge.proofs.zhitomrak_say_humidity.Reads as bridge-zhitomrak-say-humidity
use Rattle.bridge.proofs.zhitomrak_say_reading.Reads as bridge-zhitomrak-say-reading
use Rattle.zhitomrak.proofs.zhitomrak_open.Reads as zhitomrak-zhitomrak-open
use Rattle.zhitomrak.proofs.zhitomrak_hear.Reads as zhitomrak-zhitomrak-hear
use Rattle.zhitomrak.proofs.zhitomrak_note.Reads as zhitomrak-zhitomrak-note
use Rattle.zhitomrak.proofs.zhitomrak_pressure.Reads as zhitomrak-zhitomrak-pressure
use Rattle.zhitomrak.proofs.zhitomrak_tendency.Reads as zhitomrak-zhitomrak-tendency
use Rattle.zhitomrak.proofs.zhitomrak_wind.Reads as zhitomrak-zhitomrak-wind
use Rattle.zhitomrak.proofs.zhitomrak_humidity.Reads as zhitomrak-zhitomrak-humidity
use Rattle.zhitomrak.proofs.zhitomrak_read.Reads as zhitomrak-zhitomrak-read
use Rattle.zhitomrak.proofs.zhitomrak_record_at.Reads as zhitomrak-zhitomrak-record-at
use Rattle.zhitomrak.proofs.zhitomrak_write_words.Reads as zhitomrak-zhitomrak-write-words
use Rattle.zhitomrak.proofs.zhitomrak_list.Reads as zhitomrak-zhitomrak-list

pub record OneAnswerEach : Type 0 where
  -- number
  pub number-Kept-number-single : Single number-Kept-number.Post
  pub number-Number-whole-single : Single number-Number-whole.Post
  pub number-Number-signed-single : Single number-Number-signed.Post
  pub number-Number-keep-single : Single number-Number-keep.Post
  pub number-Number-plus-single : Single number-Number-plus.Post
  pub number-Number-minus-single : Single number-Number-minus.Post
  pub number-Number-times-single : Single number-Number-times.Post
  pub number-Number-is_minus-single : Single number-Number-is-minus.Post
  pub number-Number-size-single : Single number-Number-size.Post
  pub number-Number-over-single : Single number-Number-over.Post
  pub number-Number-within-single : Single number-Number-within.Post
  pub number-power-single : Single number-power.Post
  -- quantity
  pub quantity-BarometerUnit-holds-single : Single quantity-BarometerUnit-holds.Post
  pub quantity-Hectopascals-holds-single : Single quantity-Hectopascals-holds.Post
  pub quantity-Hectopascals-recorded-single : Single quantity-Hectopascals-recorded.Post
  pub quantity-Hectopascals-changes-single : Single quantity-Hectopascals-changes.Post
  pub quantity-Millimetres-holds-single : Single quantity-Millimetres-holds.Post
  pub quantity-WheelhouseTemperature-holds-single : Single quantity-WheelhouseTemperature-holds.Post
  pub quantity-BulbTemperature-holds-single : Single quantity-BulbTemperature-holds.Post
  pub quantity-BulbTemperature-freezes-single : Single quantity-BulbTemperature-freezes.Post
  pub quantity-BulbTemperature-leaves_doubt-single : Single quantity-BulbTemperature-leaves-doubt.Post
  pub quantity-BulbState-holds-single : Single quantity-BulbState-holds.Post
  pub quantity-BulbState-numbered-single : Single quantity-BulbState-numbered.Post
  pub quantity-BulbState-number-single : Single quantity-BulbState-number.Post
  pub quantity-MetresPerSecond-holds-single : Single quantity-MetresPerSecond-holds.Post
  pub quantity-MetresPerSecond-blows-single : Single quantity-MetresPerSecond-blows.Post
  pub quantity-Knots-holds-single : Single quantity-Knots-holds.Post
  pub quantity-Degrees-holds-single : Single quantity-Degrees-holds.Post
  pub quantity-Minute-holds-single : Single quantity-Minute-holds.Post
  pub quantity-Millimetres-hectopascals-single : Single quantity-Millimetres-hectopascals.Post
  pub quantity-MetresPerSecond-parts-single : Single quantity-MetresPerSecond-parts.Post
  pub quantity-Knots-parts-single : Single quantity-Knots-parts.Post
  pub quantity-Degrees-keep-single : Single quantity-Degrees-keep.Post
  -- octets
  pub octets-two-single : Single octets-two.Post
  pub octets-four-single : Single octets-four.Post
  pub octets-in_two-single : Single octets-in-two.Post
  pub octets-in_four-single : Single octets-in-four.Post
  pub octets-signed-single : Single octets-signed.Post
  pub octets-unsigned-single : Single octets-unsigned.Post
  pub octets-signed_word-single : Single octets-signed-word.Post
  pub octets-word_of-single : Single octets-word-of.Post
  -- wire
  pub wire-decode-single : Single wire-decode.Post
  pub wire-number-single : Single wire-number.Post
  -- message
  pub message-receive-single : Single message-receive.Post
  -- settings
  pub settings-Height-holds-single : Single settings-Height-holds.Post
  pub settings-SeaLevelDifference-holds-single : Single settings-SeaLevelDifference-holds.Post
  pub settings-TemperatureCoefficient-holds-single : Single settings-TemperatureCoefficient-holds.Post
  pub settings-PsychrometerCoefficient-holds-single : Single settings-PsychrometerCoefficient-holds.Post
  pub settings-Correction-holds-single : Single settings-Correction-holds.Post
  pub settings-Rate-holds-single : Single settings-Rate-holds.Post
  pub settings-check-single : Single settings-check.Post
  pub settings-number-single : Single settings-number.Post
  -- window
  pub window-next-single : Single window-next.Post
  pub window-accept-single : Single window-accept.Post
  pub window-accept-left : SingleLeft window-accept.Post (λ κs s. s.0.now)
  pub window-find-single : Single window-find.Post
  pub window-missed-single : Single window-missed.Post
  -- cell
  pub cell-biased-single : Single cell-biased.Post
  pub cell-unbiased-single : Single cell-unbiased.Post
  pub cell-pair_cell-single : Single cell-pair-cell.Post
  pub cell-cell_of-single : Single cell-cell-of.Post
  pub cell-reading_in-single : Single cell-reading-in.Post
  -- certificate
  pub certificate-value_at-single : Single certificate-value-at.Post
  -- block
  pub block-lay-single : Single block-lay.Post
  pub block-lay-left : SingleLeft block-lay.Post (λ κs s. s.0.now)
  pub block-is_store-single : Single block-is-store.Post
  pub block-unit-single : Single block-unit.Post
  pub block-height-single : Single block-height.Post
  pub block-difference-single : Single block-difference.Post
  pub block-coefficient-single : Single block-coefficient.Post
  pub block-psychrometer-single : Single block-psychrometer.Post
  pub block-points-single : Single block-points.Post
  pub block-point-single : Single block-point.Post
  pub block-certificate-single : block.SingleCertificate
  pub block-rates-single : Single block-rates.Post
  pub block-rate-single : Single block-rate.Post
  pub block-anemometer-single : block.SingleAnemometer
  -- anemometer
  pub anemometer-Note-holds-single : Single anemometer-Note-holds.Post
  pub anemometer-measure-single : Single anemometer-measure.Post
  pub anemometer-from_bow-single : Single anemometer-from-bow.Post
  -- store
  pub store-open-single : Single store-open.Post
  pub store-open-left : SingleLeft store-open.Post (λ κs s. s.0.now)
  pub store-hear-single : Single store-hear.Post
  pub store-hear-left : SingleLeft store-hear.Post (λ κs s. s.0.now)
  pub store-note-single : Single store-note.Post
  pub store-note-left : SingleLeft store-note.Post (λ κs s. s.0.now)
  pub store-recall-single : Single store-recall.Post
  pub store-next-single : Single store-next.Post
  pub store-missing_minutes-single : Single store-missing-minutes.Post
  pub store-number-single : Single store-number.Post
  -- pressure
  pub pressure-sea_level_pressure-single : Single pressure-sea-level-pressure.Post
  pub pressure-station_pressure-single : Single pressure-station-pressure.Post
  -- sine
  pub sine-mark-single : Single sine-mark.Post
  pub sine-size-single : Single sine_size.Post
  pub sine-sine-single : Single sine-sine.Post
  pub sine-cosine-single : Single sine-cosine.Post
  -- wind
  pub wind-true_wind-single : Single wind-true-wind.Post
  -- vapour
  pub vapour-saturation-single : Single vapour-saturation.Post
  pub vapour-saturation_over_ice-single : Single vapour-saturation-over-ice.Post
  pub vapour-dew_point-single : Single vapour-dew-point.Post
  pub vapour-is_dew_point-single : Single vapour-is-dew-point.Post
  pub vapour-VapourPressure-holds-single : Single vapour-VapourPressure-holds.Post
  pub vapour-relative_humidity-single : Single vapour-relative-humidity.Post
  pub vapour-deficit-single : Single vapour-deficit.Post
  -- humidity
  pub humidity-humidity-single : Single humidity-humidity.Post
  -- station
  pub station-open-single : Single station-open.Post
  pub station-open-left : SingleLeft station-open.Post (λ κs s. s.0.now)
  pub station-hear-single : Single station-hear.Post
  pub station-hear-left : SingleLeft station-hear.Post (λ κs s. s.0.now)
  pub station-note-single : Single station-note.Post
  pub station-note-left : SingleLeft station-note.Post (λ κs s. s.0.now)
  pub station-pressure-single : Single station-pressure.Post
  pub station-tendency-single : Single station-tendency.Post
  pub station-wind-single : Single station-wind.Post
  pub station-humidity-single : Single station-humidity.Post
  pub station-number-single : Single station-number.Post
  -- watchfile
  pub watchfile-Body-kind-single : Single watchfile-Body-kind.Post
  pub watchfile-size_of-single : Single watchfile-size-of.Post
  pub watchfile-rank-single : Single watchfile-rank.Post
  pub watchfile-kind_right-single : Single watchfile-kind-right.Post
  pub watchfile-minute_right-single : Single watchfile-minute-right.Post
  pub watchfile-pressure_right-single : Single watchfile-pressure-right.Post
  pub watchfile-change_right-single : Single watchfile-change-right.Post
  pub watchfile-absent_right-single : Single watchfile-absent-right.Post
  pub watchfile-speed_right-single : Single watchfile-speed-right.Post
  pub watchfile-direction_right-single : Single watchfile-direction-right.Post
  pub watchfile-e_right-single : Single watchfile-e-right.Post
  pub watchfile-saturation_right-single : Single watchfile-saturation-right.Post
  pub watchfile-deficit_right-single : Single watchfile-deficit-right.Post
  pub watchfile-relative_right-single : Single watchfile-relative-right.Post
  pub watchfile-dew_right-single : Single watchfile-dew-right.Post
  pub watchfile-body_right-single : Single watchfile-body-right.Post
  pub watchfile-record_right-single : Single watchfile-record-right.Post
  -- reader
  pub reader-read-single : Single reader-read.Post
  pub reader-record_at-single : Single reader-record-at.Post
  -- handed
  pub handed-record_of-single : Single handed-record-of.Post
  pub handed-words-single : Single handed-words.Post
  pub handed-count-single : Single handed-count.Post
  pub handed-record_at-single : Single handed-record-at.Post
  -- writer
  pub writer-write-single : Single writer-write.Post
  pub writer-write-left : SingleLeft writer-write.Post (λ κs s. s.0.now)
  -- text
  pub text-Page-new-single : Single text-Page-new.Post
  pub text-Page-byte-single : Single text-Page-byte.Post
  pub text-Page-byte-left : SingleLeft text-Page-byte.Post (λ κs s. words_of s.0.now)
  pub text-Page-natural-single : Single text-Page-natural.Post
  pub text-Page-natural-left : SingleLeft text-Page-natural.Post (λ κs s. words_of s.0.now)
  pub text-Page-number-single : Single text-Page-number.Post
  pub text-Page-number-left : SingleLeft text-Page-number.Post (λ κs s. words_of s.0.now)
  pub text-Page-bytes-single : Single text-Page-bytes.Post
  pub text-Page-bytes-left : SingleLeft text-Page-bytes.Post (λ κs s. words_of s.0.now)
  pub text-Page-field-single : Single text-Page-field.Post
  pub text-Page-field-left : SingleLeft text-Page-field.Post (λ κs s. words_of s.0.now)
  pub text-Page-signed-single : Single text-Page-signed.Post
  pub text-Page-signed-left : SingleLeft text-Page-signed.Post (λ κs s. words_of s.0.now)
  -- listing
  pub listing-list-single : Single listing-list.Post
  pub listing-list-left : SingleLeft listing-list.Post (λ κs s. s.1.0.now)
  -- desk
  pub desk-hear_all-single : Single desk-hear-all.Post
  pub desk-hear_all-left : SingleLeft desk-hear-all.Post (λ κs s. s.0.now)
  pub desk-pressure_record-single : Single desk-pressure-record.Post
  pub desk-tendency_record-single : Single desk-tendency-record.Post
  pub desk-wind_record-single : Single desk-wind-record.Post
  pub desk-humidity_record-single : Single desk-humidity-record.Post
  pub watchlog-place-single : Single logbook-place.Post
  pub watchlog-place-left : SingleLeft logbook-place.Post (λ κs s. s.0.now)
  pub watchlog-write-single : Single logbook-write.Post
  pub watchlog-write-left : SingleLeft logbook-write.Post (λ κs s. s.0.now)
  pub watchlog-take_out-single : Single logbook-take-out.Post
  pub watchlog-take_out-left : SingleLeft logbook-take-out.Post (λ κs s. s.0.now)
  -- answer
  pub answer-put_opening-single : Single answer-put-opening.Post
  pub answer-put_opening-left : SingleLeft answer-put-opening.Post (λ κs s. words_of s.0.now)
  pub answer-put_hearing-single : Single answer-put-hearing.Post
  pub answer-put_hearing-left : SingleLeft answer-put-hearing.Post (λ κs s. words_of s.0.now)
  pub answer-put_noting-single : Single answer-put-noting.Post
  pub answer-put_noting-left : SingleLeft answer-put-noting.Post (λ κs s. words_of s.0.now)
  pub answer-put_pressure-single : Single answer-put-pressure.Post
  pub answer-put_pressure-left : SingleLeft answer-put-pressure.Post (λ κs s. words_of s.0.now)
  pub answer-put_tendency-single : Single answer-put-tendency.Post
  pub answer-put_tendency-left : SingleLeft answer-put-tendency.Post (λ κs s. words_of s.0.now)
  pub answer-put_wind-single : Single answer-put-wind.Post
  pub answer-put_wind-left : SingleLeft answer-put-wind.Post (λ κs s. words_of s.0.now)
  pub answer-put_humidity-single : Single answer-put-humidity.Post
  pub answer-put_humidity-left : SingleLeft answer-put-humidity.Post (λ κs s. words_of s.0.now)
  pub answer-put_written-single : Single answer-put-written.Post
  pub answer-put_written-left : SingleLeft answer-put-written.Post (λ κs s. words_of s.0.now)
  -- line
  pub line-next_word-single : Single line-next-word.Post
  pub line-word-single : line.SingleWord
  pub line-field_end-single : Single line-field-end.Post
  pub line-same-single : Single line_same.Post
  pub line-whole-single : Single line-whole.Post
  pub line-signed-single : Single line-signed.Post
  -- hex
  pub hexadecimal-is_hex-single : Single hex-is-hex.Post
  pub hexadecimal-unhex-single : Single hex-unhex.Post
  pub hexadecimal-unhex-left : SingleLeft hex-unhex.Post (λ κs s. s.1.0.now)
  pub hexadecimal-put_hex-single : Single hex-put-hex.Post
  pub hexadecimal-put_hex-left : SingleLeft hex-put-hex.Post (λ κs s. words_of s.0.now)
  -- command
  pub command-parse-single : Single command-parse.Post
  pub command-parse-left : SingleLeft command-parse.Post (λ κs s. s.1.0.now)
  -- values
  pub values-settings_of-single : Single values-settings-of.Post
  pub values-records_of-single : Single values-records-of.Post
  -- notice
  pub notice-put_fault-single : Single notice-put-fault.Post
  pub notice-put_fault-left : SingleLeft notice-put-fault.Post (λ κs s. words_of s.0.now)
  -- told
  pub told-hearing_told-single : Single told-hearing-told.Post
  pub told-noting_told-single : Single told-noting-told.Post
  pub told-pressure_told-single : Single told-pressure-told.Post
  pub told-tendency_told-single : Single told-tendency-told.Post
  pub told-wind_told-single : Single told-wind-told.Post
  pub told-humidity_told-single : Single told-humidity-told.Post
  -- sheet
  pub sheet-settings_in-single : Single sheet-settings-in.Post
  pub sheet-read-single : Single sheet-read.Post
  pub sheet-read-left : SingleLeft sheet-read.Post (λ κs s. s.1.0.now)
  -- spoken
  pub spoken-put_pressure-single : Single spoken-put-pressure.Post
  pub spoken-put_pressure-left : SingleLeft spoken-put-pressure.Post (λ κs s. words_of s.0.now)
  pub spoken-put_tendency-single : Single spoken-put-tendency.Post
  pub spoken-put_tendency-left : SingleLeft spoken-put-tendency.Post (λ κs s. words_of s.0.now)
  pub spoken-put_wind-single : Single spoken-put-wind.Post
  pub spoken-put_wind-left : SingleLeft spoken-put-wind.Post (λ κs s. words_of s.0.now)
  pub spoken-put_humidity-single : Single spoken-put-humidity.Post
  pub spoken-put_humidity-left : SingleLeft spoken-put-humidity.Post (λ κs s. words_of s.0.now)
  pub spoken-put_reading-single : Single spoken-put-reading.Post
  pub spoken-put_reading-left : SingleLeft spoken-put-reading.Post (λ κs s. words_of s.0.now)
  pub spoken-put_refusal-single : Single spoken-put-refusal.Post
  pub spoken-put_refusal-left : SingleLeft spoken-put-refusal.Post (λ κs s. words_of s.0.now)
  -- kept
  pub kept-newest-single : Single kept-newest.Post
  pub kept-reading-single : Single kept-reading.Post
  pub kept-stretch-single : Single kept-stretch.Post
  pub kept-stretch-left : SingleLeft kept-stretch.Post (λ κs s. s.1.1.1.0.now)
  -- entered
  pub entered-record-single : Single entered-record.Post
  pub entered-record-left : SingleLeft entered-record.Post (λ κs s. s.1.1.1.0.now)
  -- filed
  pub filed-file_told-single : Single filed-file-told.Post
  pub filed-write_told-single : Single filed-write-told.Post
  pub filed-place_told-single : Single filed-place-told.Post
  pub filed-listed_told-single : Single filed-listed-told.Post
  -- zhitomrak
  pub zhitomrak-zhitomrak_version-single : Single zhitomrak-zhitomrak-version.Post
  pub bridge-zhitomrak_settings_of-single : Single bridge-zhitomrak-settings-of.Post
  pub bridge-zhitomrak_settings_of-left : SingleLeft bridge-zhitomrak-settings-of.Post (λ κs s. s.1.0.now)
  pub bridge-zhitomrak_hear_all-single : Single bridge-zhitomrak-hear-all.Post
  pub bridge-zhitomrak_hear_all-left : SingleLeft bridge-zhitomrak-hear-all.Post (λ κs s. s.0.now)
  pub bridge-zhitomrak_hear_all-counts : SingleLeft bridge-zhitomrak-hear-all.Post (λ κs s. s.1.1.0.now)
  pub bridge-zhitomrak_newest-single : Single bridge-zhitomrak-newest.Post
  pub bridge-zhitomrak_reading-single : Single bridge-zhitomrak-reading.Post
  pub bridge-zhitomrak_stretch-single : Single bridge-zhitomrak-stretch.Post
  pub bridge-zhitomrak_stretch-left : SingleLeft bridge-zhitomrak-stretch.Post (λ κs s. s.1.1.1.0.now)
  pub bridge-zhitomrak_record_of-single : Single bridge-zhitomrak-record-of.Post
  pub bridge-zhitomrak_record_of-left : SingleLeft bridge-zhitomrak-record-of.Post (λ κs s. s.1.1.1.0.now)
  pub bridge-zhitomrak_place-single : Single bridge-zhitomrak-place.Post
  pub bridge-zhitomrak_place-left : SingleLeft bridge-zhitomrak-place.Post (λ κs s. s.0.now)
  pub bridge-zhitomrak_take_out-single : Single bridge-zhitomrak-take-out.Post
  pub bridge-zhitomrak_take_out-left : SingleLeft bridge-zhitomrak-take-out.Post (λ κs s. s.0.now)
  pub bridge-zhitomrak_say_refusal-single : Single bridge-zhitomrak-say-refusal.Post
  pub bridge-zhitomrak_say_refusal-left : SingleLeft bridge-zhitomrak-say-refusal.Post (λ κs s. s.1.1.1.0.now)
  pub bridge-zhitomrak_say_pressure-single : Single bridge-zhitomrak-say-pressure.Post
  pub bridge-zhitomrak_say_pressure-left : SingleLeft bridge-zhitomrak-say-pressure.Post (λ κs s. s.1.0.now)
  pub bridge-zhitomrak_say_tendency-single : Single bridge-zhitomrak-say-tendency.Post
  pub bridge-zhitomrak_say_tendency-left : SingleLeft bridge-zhitomrak-say-tendency.Post (λ κs s. s.1.0.now)
  pub bridge-zhitomrak_say_wind-single : Single bridge-zhitomrak-say-wind.Post
  pub bridge-zhitomrak_say_wind-left : SingleLeft bridge-zhitomrak-say-wind.Post (λ κs s. s.1.0.now)
  pub bridge-zhitomrak_say_humidity-single : Single bridge-zhitomrak-say-humidity.Post
  pub bridge-zhitomrak_say_humidity-left : SingleLeft bridge-zhitomrak-say-humidity.Post (λ κs s. s.1.0.now)
  pub bridge-zhitomrak_say_reading-single : Single bridge-zhitomrak-say-reading.Post
  pub bridge-zhitomrak_say_reading-left : SingleLeft bridge-zhitomrak-say-reading.Post (λ κs s. s.1.0.now)
  pub zhitomrak-zhitomrak_open-single : Single zhitomrak-zhitomrak-open.Post
  pub zhitomrak-zhitomrak_open-left : SingleLeft zhitomrak-zhitomrak-open.Post (λ κs s. s.0.now)
  pub zhitomrak-zhitomrak_hear-single : Single zhitomrak-zhitomrak-hear.Post
  pub zhitomrak-zhitomrak_hear-left : SingleLeft zhitomrak-zhitomrak-hear.Post (λ κs s. s.0.now)
  pub zhitomrak-zhitomrak_note-single : Single zhitomrak-zhitomrak-note.Post
  pub zhitomrak-zhitomrak_note-left : SingleLeft zhitomrak-zhitomrak-note.Post (λ κs s. s.0.now)
  pub zhitomrak-zhitomrak_pressure-single : Single zhitomrak-zhitomrak-pressure.Post
  pub zhitomrak-zhitomrak_tendency-single : Single zhitomrak-zhitomrak-tendency.Post
  pub zhitomrak-zhitomrak_wind-single : Single zhitomrak-zhitomrak-wind.Post
  pub zhitomrak-zhitomrak_humidity-single : Single zhitomrak-zhitomrak-humidity.Post
  pub zhitomrak-zhitomrak_read-single : Single zhitomrak-zhitomrak-read.Post
  pub zhitomrak-zhitomrak_record_at-single : Single zhitomrak-zhitomrak-record-at.Post
  pub zhitomrak-zhitomrak_write_words-single : Single zhitomrak-zhitomrak-write-words.Post
  pub zhitomrak-zhitomrak_write_words-left : SingleLeft zhitomrak-zhitomrak-write-words.Post (λ κs s. s.0.now)
  pub zhitomrak-zhitomrak_list-single : Single zhitomrak-zhitomrak-list.Post
  pub zhitomrak-zhitomrak_list-left : SingleLeft zhitomrak-zhitomrak-list.Post (λ κs s. s.1.0.now)

pub one_answer_each : OneAnswerEach
one_answer_each =
    record {
      number-Kept-number-single = number.single_kept_number;
      number-Number-whole-single = number.single_whole;
      number-Number-signed-single = number.single_signed;
      number-Number-keep-single = number.single_keep;
      number-Number-plus-single = number.single_plus;
      number-Number-minus-single = number.single_minus;
      number-Number-times-single = number.single_times;
      number-Number-is_minus-single = number.single_is_minus;
      number-Number-size-single = number.single_size;
      number-Number-over-single = number.single_over;
      number-Number-within-single = number.single_within;
      number-power-single = number.single_power;
      quantity-BarometerUnit-holds-single = quantity.single_barometer_unit;
      quantity-Hectopascals-holds-single = quantity.single_hectopascals;
      quantity-Hectopascals-recorded-single = quantity.single_recorded;
      quantity-Hectopascals-changes-single = quantity.single_changes;
      quantity-Millimetres-holds-single = quantity.single_millimetres;
      quantity-WheelhouseTemperature-holds-single = quantity.single_wheelhouse_temperature;
      quantity-BulbTemperature-holds-single = quantity.single_bulb_temperature;
      quantity-BulbTemperature-freezes-single = quantity.single_freezes;
      quantity-BulbTemperature-leaves_doubt-single = quantity.single_leaves_doubt;
      quantity-BulbState-holds-single = quantity.single_is_state;
      quantity-BulbState-numbered-single = quantity.single_state_numbered;
      quantity-BulbState-number-single = quantity.single_state_number;
      quantity-MetresPerSecond-holds-single = quantity.single_metres_per_second;
      quantity-MetresPerSecond-blows-single = quantity.single_blows;
      quantity-Knots-holds-single = quantity.single_knots;
      quantity-Degrees-holds-single = quantity.single_degrees;
      quantity-Minute-holds-single = quantity.single_minute;
      quantity-Millimetres-hectopascals-single = quantity.single_in_hectopascals;
      quantity-MetresPerSecond-parts-single = quantity.single_metres_parts;
      quantity-Knots-parts-single = quantity.single_knots_parts;
      quantity-Degrees-keep-single = quantity.single_degrees_keep;
      octets-two-single = octets.single_two;
      octets-four-single = octets.single_four;
      octets-in_two-single = octets.single_in_two;
      octets-in_four-single = octets.single_in_four;
      octets-signed-single = octets.single_signed;
      octets-unsigned-single = octets.single_unsigned;
      octets-signed_word-single = octets.single_signed_word;
      octets-word_of-single = octets.single_word_of;
      wire-decode-single = wire.single_decode;
      wire-number-single = wire.single_number;
      message-receive-single = message.single_receive;
      settings-Height-holds-single = settings.single_height;
      settings-SeaLevelDifference-holds-single = settings.single_difference;
      settings-TemperatureCoefficient-holds-single = settings.single_coefficient;
      settings-PsychrometerCoefficient-holds-single = settings.single_psychrometer;
      settings-Correction-holds-single = settings.single_correction;
      settings-Rate-holds-single = settings.single_rate;
      settings-check-single = settings.single_check;
      settings-number-single = settings.single_number;
      window-next-single = window.single_next;
      window-accept-single = window.single_accept;
      window-accept-left = window.single_accept_words;
      window-find-single = window.single_find;
      window-missed-single = window.single_missed;
      cell-biased-single = cell.single_biased;
      cell-unbiased-single = cell.single_unbiased;
      cell-pair_cell-single = cell.single_pair_cell;
      cell-cell_of-single = cell.single_cell_of;
      cell-reading_in-single = cell.single_reading_in;
      certificate-value_at-single = certificate.single_value_at;
      block-lay-single = block.single_lay;
      block-lay-left = block.single_lay_left;
      block-is_store-single = block.single_is_store;
      block-unit-single = block.single_unit;
      block-height-single = block.single_height;
      block-difference-single = block.single_difference;
      block-coefficient-single = block.single_coefficient;
      block-psychrometer-single = block.single_psychrometer;
      block-points-single = block.single_points;
      block-point-single = block.single_point;
      block-certificate-single = block.single_certificate;
      block-rates-single = block.single_rates;
      block-rate-single = block.single_rate;
      block-anemometer-single = block.single_anemometer;
      anemometer-Note-holds-single = anemometer.single_holds;
      anemometer-measure-single = anemometer.single_measure;
      anemometer-from_bow-single = anemometer.single_from_bow;
      store-open-single = store.single_open;
      store-open-left = store.single_open_left;
      store-hear-single = store.single_hear;
      store-hear-left = store.single_hear_left;
      store-note-single = store.single_note;
      store-note-left = store.single_note_left;
      store-recall-single = store.single_recall;
      store-next-single = store.single_next;
      store-missing_minutes-single = store.single_missing_minutes;
      store-number-single = store.single_number;
      pressure-sea_level_pressure-single = pressure.single_sea_level_pressure;
      pressure-station_pressure-single = pressure.single_station_pressure;
      sine-mark-single = sine.single_mark;
      sine-size-single = sine.single_size;
      sine-sine-single = sine.single_sine;
      sine-cosine-single = sine.single_cosine;
      wind-true_wind-single = wind.single_true_wind;
      vapour-saturation-single = vapour.single_saturation;
      vapour-saturation_over_ice-single = vapour.single_over_ice;
      vapour-dew_point-single = vapour.single_dew_point;
      vapour-is_dew_point-single = vapour.single_is_dew_point;
      vapour-VapourPressure-holds-single = vapour.single_vapour_pressure;
      vapour-relative_humidity-single = vapour.single_relative_humidity;
      vapour-deficit-single = vapour.single_deficit;
      humidity-humidity-single = humidity.single_humidity;
      station-open-single = station.single_open;
      station-open-left = station.single_open_left;
      station-hear-single = station.single_hear;
      station-hear-left = station.single_hear_left;
      station-note-single = station.single_note;
      station-note-left = station.single_note_left;
      station-pressure-single = station.single_pressure;
      station-tendency-single = station.single_tendency;
      station-wind-single = station.single_wind_answer;
      station-humidity-single = station.single_humidity;
      station-number-single = station.single_number;
      watchfile-Body-kind-single = watchfile.single_kind;
      watchfile-size_of-single = watchfile.single_size_of;
      watchfile-rank-single = watchfile.single_rank;
      watchfile-kind_right-single = watchfile.single_kind_right;
      watchfile-minute_right-single = watchfile.single_minute_right;
      watchfile-pressure_right-single = watchfile.single_pressure_right;
      watchfile-change_right-single = watchfile.single_change_right;
      watchfile-absent_right-single = watchfile.single_absent_right;
      watchfile-speed_right-single = watchfile.single_speed_right;
      watchfile-direction_right-single = watchfile.single_direction_right;
      watchfile-e_right-single = watchfile.single_e_right;
      watchfile-saturation_right-single = watchfile.single_saturation_right;
      watchfile-deficit_right-single = watchfile.single_deficit_right;
      watchfile-relative_right-single = watchfile.single_relative_right;
      watchfile-dew_right-single = watchfile.single_dew_right;
      watchfile-body_right-single = watchfile.single_body_right;
      watchfile-record_right-single = watchfile.single_record_right;
      reader-read-single = reader.single_read;
      reader-record_at-single = reader.single_record_at;
      handed-record_of-single = handed.single_record_of;
      handed-words-single = handed.single_words;
      handed-count-single = handed.single_count;
      handed-record_at-single = handed.single_record_at;
      writer-write-single = writer.single_write;
      writer-write-left = writer.single_write_bytes;
      text-Page-new-single = text.single_new;
      text-Page-byte-single = λ κs a r r' s s' p q. refl;
      text-Page-byte-left = text.single_byte_page;
      text-Page-natural-single = λ κs a r r' s s' p q. refl;
      text-Page-natural-left = text.single_natural_page;
      text-Page-number-single = λ κs a r r' s s' p q. refl;
      text-Page-number-left = text.single_number_page;
      text-Page-bytes-single = λ κs a r r' s s' p q. refl;
      text-Page-bytes-left = text.single_bytes_page;
      text-Page-field-single = λ κs a r r' s s' p q. refl;
      text-Page-field-left = text.single_field_page;
      text-Page-signed-single = λ κs a r r' s s' p q. refl;
      text-Page-signed-left = text.single_signed_page;
      listing-list-single = listing.single_list;
      listing-list-left = listing.single_list_text;
      desk-hear_all-single = desk.single_hear_all;
      desk-hear_all-left = desk.single_hear_all_left;
      desk-pressure_record-single = desk.single_pressure_record;
      desk-tendency_record-single = desk.single_tendency_record;
      desk-wind_record-single = desk.single_wind_record;
      desk-humidity_record-single = desk.single_humidity_record;
      watchlog-place-single = logbook.single_place;
      watchlog-place-left = logbook.single_place_left;
      watchlog-write-single = logbook.single_write;
      watchlog-write-left = logbook.single_write_left;
      watchlog-take_out-single = logbook.single_take_out;
      watchlog-take_out-left = logbook.single_take_out_left;
      answer-put_opening-single = λ κs a r r' s s' p q. refl;
      answer-put_opening-left = answer.single_put_opening_page;
      answer-put_hearing-single = λ κs a r r' s s' p q. refl;
      answer-put_hearing-left = answer.single_put_hearing_page;
      answer-put_noting-single = λ κs a r r' s s' p q. refl;
      answer-put_noting-left = answer.single_put_noting_page;
      answer-put_pressure-single = λ κs a r r' s s' p q. refl;
      answer-put_pressure-left = answer.single_put_pressure_page;
      answer-put_tendency-single = λ κs a r r' s s' p q. refl;
      answer-put_tendency-left = answer.single_put_tendency_page;
      answer-put_wind-single = λ κs a r r' s s' p q. refl;
      answer-put_wind-left = answer.single_put_wind_page;
      answer-put_humidity-single = λ κs a r r' s s' p q. refl;
      answer-put_humidity-left = answer.single_put_humidity_page;
      answer-put_written-single = λ κs a r r' s s' p q. refl;
      answer-put_written-left = answer.single_put_written_page;
      line-next_word-single = line.single_next_word;
      line-word-single = line.single_word;
      line-field_end-single = line.single_field_end;
      line-same-single = line.single_same;
      line-whole-single = line.single_whole;
      line-signed-single = line.single_signed;
      hexadecimal-is_hex-single = hex.single_is_hex;
      hexadecimal-unhex-single = hex.single_unhex;
      hexadecimal-unhex-left = hex.single_unhex_bytes;
      hexadecimal-put_hex-single = λ κs a r r' s s' p q. refl;
      hexadecimal-put_hex-left = hex.single_put_hex_page;
      command-parse-single = command.single_parse;
      command-parse-left = command.single_parse_numbers;
      values-settings_of-single = values.single_settings_of;
      values-records_of-single = values.single_records_of;
      notice-put_fault-single = λ κs a r r' s s' p q. refl;
      notice-put_fault-left = notice.single_put_fault_page;
      told-hearing_told-single = told.single_hearing_told;
      told-noting_told-single = told.single_noting_told;
      told-pressure_told-single = told.single_pressure_told;
      told-tendency_told-single = told.single_tendency_told;
      told-wind_told-single = told.single_wind_told;
      told-humidity_told-single = told.single_humidity_told;
      sheet-settings_in-single = sheet.single_settings_in;
      sheet-read-single = sheet.single_read;
      sheet-read-left = sheet.single_read_left;
      spoken-put_pressure-single = λ κs a r r' s s' p q. refl;
      spoken-put_pressure-left = spoken.single_put_pressure_page;
      spoken-put_tendency-single = λ κs a r r' s s' p q. refl;
      spoken-put_tendency-left = spoken.single_put_tendency_page;
      spoken-put_wind-single = λ κs a r r' s s' p q. refl;
      spoken-put_wind-left = spoken.single_put_wind_page;
      spoken-put_humidity-single = λ κs a r r' s s' p q. refl;
      spoken-put_humidity-left = spoken.single_put_humidity_page;
      spoken-put_reading-single = λ κs a r r' s s' p q. refl;
      spoken-put_reading-left = spoken.single_put_reading_page;
      spoken-put_refusal-single = λ κs a r r' s s' p q. refl;
      spoken-put_refusal-left = spoken.single_put_refusal_page;
      kept-newest-single = kept.single_newest;
      kept-reading-single = kept.single_reading;
      kept-stretch-single = kept.single_stretch;
      kept-stretch-left = kept.single_stretch_left;
      entered-record-single = entered.single_record;
      entered-record-left = entered.single_record_left;
      filed-file_told-single = filed.single_file_told;
      filed-write_told-single = filed.single_write_told;
      filed-place_told-single = filed.single_place_told;
      filed-listed_told-single = filed.single_listed_told;
      zhitomrak-zhitomrak_version-single = zhitomrak.single_version;
      bridge-zhitomrak_settings_of-single = bridge.single_settings_of;
      bridge-zhitomrak_settings_of-left = bridge.single_settings_of_left;
      bridge-zhitomrak_hear_all-single = bridge.single_hear_all;
      bridge-zhitomrak_hear_all-left = bridge.single_hear_all_left;
      bridge-zhitomrak_hear_all-counts = bridge.single_hear_all_counts;
      bridge-zhitomrak_newest-single = bridge.single_newest;
      bridge-zhitomrak_reading-single = bridge.single_reading;
      bridge-zhitomrak_stretch-single = bridge.single_stretch;
      bridge-zhitomrak_stretch-left = bridge.single_stretch_left;
      bridge-zhitomrak_record_of-single = bridge.single_record_of;
      bridge-zhitomrak_record_of-left = bridge.single_record_of_left;
      bridge-zhitomrak_place-single = bridge.single_place;
      bridge-zhitomrak_place-left = bridge.single_place_left;
      bridge-zhitomrak_take_out-single = bridge.single_take_out;
      bridge-zhitomrak_take_out-left = bridge.single_take_out_left;
      bridge-zhitomrak_say_refusal-single = bridge.single_say_refusal;
      bridge-zhitomrak_say_refusal-left = bridge.single_say_refusal_left;
      bridge-zhitomrak_say_pressure-single = bridge.single_say_pressure;
      bridge-zhitomrak_say_pressure-left = bridge.single_say_pressure_left;
      bridge-zhitomrak_say_tendency-single = bridge.single_say_tendency;
      bridge-zhitomrak_say_tendency-left = bridge.single_say_tendency_left;
      bridge-zhitomrak_say_wind-single = bridge.single_say_wind;
      bridge-zhitomrak_say_wind-left = bridge.single_say_wind_left;
      bridge-zhitomrak_say_humidity-single = bridge.single_say_humidity;
      bridge-zhitomrak_say_humidity-left = bridge.single_say_humidity_left;
      bridge-zhitomrak_say_reading-single = bridge.single_say_reading;
      bridge-zhitomrak_say_reading-left = bridge.single_say_reading_left;
      zhitomrak-zhitomrak_open-single = zhitomrak.single_open;
      zhitomrak-zhitomrak_open-left = zhitomrak.single_open_left;
      zhitomrak-zhitomrak_hear-single = zhitomrak.single_hear;
      zhitomrak-zhitomrak_hear-left = zhitomrak.single_hear_left;
      zhitomrak-zhitomrak_note-single = zhitomrak.single_note;
      zhitomrak-zhitomrak_note-left = zhitomrak.single_note_left;
      zhitomrak-zhitomrak_pressure-single = zhitomrak.single_pressure;
      zhitomrak-zhitomrak_tendency-single = zhitomrak.single_tendency;
      zhitomrak-zhitomrak_wind-single = zhitomrak.single_wind;
      zhitomrak-zhitomrak_humidity-single = zhitomrak.single_humidity;
      zhitomrak-zhitomrak_read-single = zhitomrak.single_read;
      zhitomrak-zhitomrak_record_at-single = zhitomrak.single_record;
      zhitomrak-zhitomrak_write_words-single = zhitomrak.single_write;
      zhitomrak-zhitomrak_write_words-left = zhitomrak.single_write_left;
      zhitomrak-zhitomrak_list-single = zhitomrak.single_list;
      zhitomrak-zhitomrak_list-left = zhitomrak.single_list_left;
    }
