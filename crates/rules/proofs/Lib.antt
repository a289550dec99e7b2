mod Row
mod Table
mod Installer
mod Readings
mod PromisesOnRows
mod FunctionsOnRow
