mod Putting
mod Bounds
mod Stores
mod Taking
mod Reporting
